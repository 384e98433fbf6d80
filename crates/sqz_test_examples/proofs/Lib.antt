pub mod RunTest
pub mod TracingTest
pub mod PathTest
pub mod WorkedImages
pub mod DominatorTest
pub mod RetainedTest
pub mod WithoutTest
