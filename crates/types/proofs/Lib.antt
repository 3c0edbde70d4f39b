pub mod Blocks
pub mod CodeLaws
pub mod NumberLaws
pub mod PredicateLaws
pub mod Tests
pub mod VerdictLaws
pub mod Volumes
