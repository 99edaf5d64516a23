pub mod Tables
pub mod SlotLemmas
pub mod StreamNumbers
