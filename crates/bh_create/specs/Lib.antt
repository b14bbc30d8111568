pub mod Creation
pub mod Items
