-- Open frames: what they have read, and how they are opened, closed and left, for `read_loop`.
pub mod Slices
pub mod Advances
pub mod Opening
pub mod Stopping
pub mod Closing
