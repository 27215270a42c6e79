mod Formats
mod Answers
mod Sequences
