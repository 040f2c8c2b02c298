pub mod Callers
mod Counts
mod MemoryPuts
mod MemoryReads
mod RealReads
mod StreamSteps
mod Tables
