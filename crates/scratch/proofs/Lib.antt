-- Laws of the definitions that the contracts cite. Promises has those that document 01 states; the rest lead to them.
pub mod Count
pub mod Cut
pub mod GateLists
pub mod Stacks
pub mod Refusals
pub mod Spans
pub mod Answers
pub mod Promises
pub mod Instances
