pub mod RootLaws
pub mod NumberLaws
pub mod Digits
pub mod ReciprocalLaws
pub mod Worked
