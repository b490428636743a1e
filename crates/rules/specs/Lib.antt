-- Document 01 as definitions, in its order: first the words that all of it uses, then a file for each section, then the calls.
-- Solved, Sound and Steps are not of the document: other crates promise by them what lies between two calls.
-- A definition stands under the sentence that it states. What is proved of them is in proofs/.
pub mod Lists
pub mod Graphs
pub mod Sizes
pub mod Refusals
pub mod Routes
pub mod Scores
pub mod Shown
pub mod Reports
pub mod Blocks
pub mod Moves
pub mod Calls
pub mod Given
pub mod Demands
pub mod Solved
pub mod Sound
pub mod Steps
