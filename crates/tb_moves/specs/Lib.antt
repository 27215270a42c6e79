pub mod ParallelMoves
