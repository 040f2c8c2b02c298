pub mod SqliteKeeperOf
