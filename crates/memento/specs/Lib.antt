pub mod Negotiation
