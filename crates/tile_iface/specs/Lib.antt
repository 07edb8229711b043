pub mod Iface
