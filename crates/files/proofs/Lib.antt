-- What reading and printing come to, way by way.
pub mod FilesLaws
