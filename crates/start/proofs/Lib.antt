-- Laws of START, way by way.
pub mod StartLaws
