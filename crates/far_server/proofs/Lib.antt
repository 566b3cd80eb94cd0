mod Going
mod Trying
mod Pushed
mod OneReply
mod Listing
mod Held
mod Several
mod Flushing
mod Swept
mod Placing
mod Executing
mod Passing
mod Stepping
mod Terms
pub mod Sent
