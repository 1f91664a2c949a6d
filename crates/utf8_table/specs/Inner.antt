pub mod ByLead
