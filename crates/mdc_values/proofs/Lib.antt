pub mod CalendarLemmas
pub mod OrderLemmas
pub mod RisingLemmas
pub mod ValueLemmas
