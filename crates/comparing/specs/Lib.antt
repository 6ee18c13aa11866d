-- What the scan over two lists finds.
pub mod Finding
