pub mod Bits
mod Keyed
mod Rising
mod Ranked
mod Nets
mod Moved
mod Headed
mod Inner
mod Evened
mod Ported
mod Outs
mod Named
mod Typed
mod Walk
mod Plainly
mod Facts
mod Domain
mod Shared
mod Items
mod SharedItems
mod DomainItems
mod SwitchItems
mod LinkItems
mod AllItems
mod OutItems
mod Priors
mod Heads
mod Readied
pub mod Sounded
pub mod Joint
mod Running
mod Rows
