-- The reader: its steps, whatever is built, for `read_loop`.
pub mod Memory
pub mod Turning
pub mod Popping
pub mod Opening
pub mod Closing
pub mod Stopping
