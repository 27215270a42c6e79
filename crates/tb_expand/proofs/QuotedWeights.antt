-- What a quoted datum weighs: the words of its static objects, or their number, its symbols apart; and its symbols.
use Rattle.std.proofs.Common.{ℕ, ◌+◌, not, Bool, cond, List, [], ◌∷◌, bytes_eq}
use Rattle.std.specs.List.{list_any}
use Rattle.tb_sexp.specs.Tree as datum
use Rattle.tb_expand.specs.Closed.{one_if}
use Rattle.tb_expand.specs.Limits.{even, byte_words, how_many_data}

-- an object of so many words weighs so much: the words, or one
abbrev pub scaled : Bool → ℕ → ℕ
scaled words w = cond words w 1

-- the limit
abbrev pub most : Bool → ℕ
most words = cond words 4194304 1000000

abbrev pub symbols_weigh : Bool → List (List ℕ) → ℕ
symbols_weigh words [] = 0
symbols_weigh words (s ∷ ss) = scaled words (byte_words s) + symbols_weigh words ss

-- the objects of a quoted datum, its symbols apart
abbrev mutual
  pub plain : Bool → datum.Tree → ℕ
  plain words (datum.At p s) = plain_in words s

  pub plain_in : Bool → datum.Shape → ℕ
  plain_in words datum.Nil = 0
  plain_in words (datum.Truth b) = 0
  plain_in words (datum.Fixnum n) = 0
  plain_in words (datum.Character c) = 0
  plain_in words (datum.String s) = scaled words (byte_words s)
  plain_in words (datum.Name s alias) = 0
  plain_in words (datum.Proper ds) = plain_pairs words ds
  plain_in words (datum.Dotted ds d) = plain_pairs words ds + plain words d
  plain_in words (datum.Vector ds) = scaled words (even (1 + how_many_data ds)) + plain_each words ds

  pub plain_pairs : Bool → datum.Trees → ℕ
  plain_pairs words datum.none = 0
  plain_pairs words (datum.more d ds) = scaled words 2 + (plain words d + plain_pairs words ds)

  pub plain_each : Bool → datum.Trees → ℕ
  plain_each words datum.none = 0
  plain_each words (datum.more d ds) = plain words d + plain_each words ds

-- how many names of a quoted datum are none of these symbols
abbrev mutual
  pub unknown : List (List ℕ) → datum.Tree → ℕ
  unknown all (datum.At p s) = unknown_in all s

  pub unknown_in : List (List ℕ) → datum.Shape → ℕ
  unknown_in all datum.Nil = 0
  unknown_in all (datum.Truth b) = 0
  unknown_in all (datum.Fixnum n) = 0
  unknown_in all (datum.Character c) = 0
  unknown_in all (datum.String s) = 0
  unknown_in all (datum.Name s alias) = one_if (not (list_any (bytes_eq s) all))
  unknown_in all (datum.Proper ds) = unknown_each all ds
  unknown_in all (datum.Dotted ds d) = unknown_each all ds + unknown all d
  unknown_in all (datum.Vector ds) = unknown_each all ds

  pub unknown_each : List (List ℕ) → datum.Trees → ℕ
  unknown_each all datum.none = 0
  unknown_each all (datum.more d ds) = unknown all d + unknown_each all ds
