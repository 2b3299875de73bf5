pub mod BigEndian
pub mod Choice
pub mod Lists
pub mod Tabulate
