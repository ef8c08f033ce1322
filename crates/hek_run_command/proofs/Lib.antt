pub mod DrivenLaws
mod Stepping
