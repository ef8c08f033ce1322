pub mod WaitFor
