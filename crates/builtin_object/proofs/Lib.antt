pub mod Owned
pub mod Told
pub mod Unbuilt
pub mod ValueKinds
