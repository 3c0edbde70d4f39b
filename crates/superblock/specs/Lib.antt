pub mod SuperBlock
