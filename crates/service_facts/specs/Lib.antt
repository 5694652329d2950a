pub mod ServiceFacts
