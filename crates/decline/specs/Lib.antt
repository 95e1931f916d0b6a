pub mod Decline
