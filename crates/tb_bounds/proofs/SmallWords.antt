-- Small words of lists, and those of new objects.
use Rattle.std.proofs.Common.{◌≡◌, subst, ℕ, zero, suc, arith, true, false, List, [], ◌∷◌, ◌++◌, length, map, take, drop, replicate, Some, slice_get, slice_set}
use Rattle.std.proofs.lemmas.Option.{same_Some}
use Rattle.tb_prim.specs.declared.constant.Const.{Const}
use Rattle.tb_prim.specs.declared.constant.Static.{Static}
use Rattle.tb_core.specs.Rules.{Every}
use Rattle.tb_mac.specs.declared.word.Word.{Word}
use Rattle.tb_mac.specs.Layout.{all_words, const_word, globals_words, start_words, static_words}
use Rattle.tb_mac.specs.declared.code.Parts.{Parts}
use Rattle.tb_mac.specs.Objects.{padding, raw_words}
use Rattle.tb_mac.specs.Words.{zero_word}
use Rattle.tb_bounds.specs.Within.{IsSmall}

module _ {X : Type 0} (P : X → Type 0) where
  pub every-append : (xs ys : List X) → Every P xs → Every P ys → Every P (xs ++ ys)
  every-append [] ys h k = k
  every-append (x ∷ xs) ys h k = (h.0, every-append xs ys h.1 k)

  pub every-take : (n : ℕ) (xs : List X) → Every P xs → Every P (take n xs)
  every-take zero xs h = tt
  every-take (suc n) [] h = tt
  every-take (suc n) (x ∷ xs) h = (h.0, every-take n xs h.1)

  pub every-drop : (n : ℕ) (xs : List X) → Every P xs → Every P (drop n xs)
  every-drop zero xs h = h
  every-drop (suc n) [] h = tt
  every-drop (suc n) (x ∷ xs) h = every-drop n xs h.1

  pub every-replicate : (n : ℕ) (x : X) → P x → Every P (replicate n x)
  every-replicate zero x h = tt
  every-replicate (suc n) x h = (h, every-replicate n x h)

  pub every-get : (xs : List X) (i : ℕ) (x : X) → Every P xs → slice_get xs i ≡ Some x → P x
  every-get [] i x h e = cc
  every-get (y ∷ xs) zero x h e = subst P (same_Some y x e) h.0
  every-get (y ∷ xs) (suc i) x h e = every-get xs i x h.1 e

  pub every-set : (xs : List X) (i : ℕ) (x : X) → Every P xs → P x → Every P (slice_set xs i x)
  every-set [] i x h p = tt
  every-set (y ∷ xs) zero x h p = (p, h.1)
  every-set (y ∷ xs) (suc i) x h p = (h.0, every-set xs i x h.1 p)

module _ (bound : ℕ) where
  abbrev pub Small : List Word → Type 0
  Small ws = Every (IsSmall bound) ws

  pub padding-small : (n : ℕ) → Small (padding n)
  padding-small n = every-replicate (IsSmall bound) _ zero_word tt

  pub raw-small : (bytes : List ℕ) → Small (raw_words bytes)
  raw-small [] = tt
  raw-small (a ∷ []) = (tt, tt)
  raw-small (a ∷ b ∷ []) = (tt, tt)
  raw-small (a ∷ b ∷ c ∷ []) = (tt, tt)
  raw-small (a ∷ b ∷ c ∷ d ∷ bytes) = (tt, raw-small bytes)

  const_small : (ss : List Static) (at : List ℕ) (c : Const) → IsSmall bound (const_word ss at c)
  const_small ss at (Const.Fix v) = tt
  const_small ss at (Const.Char c) = tt
  const_small ss at (Const.Bool true) = tt
  const_small ss at (Const.Bool false) = tt
  const_small ss at Const.Nil = tt
  const_small ss at Const.Unspecified = tt
  const_small ss at Const.Undefined = tt
  const_small ss at (Const.Stat n) = tt

  consts_small : (ss : List Static) (at : List ℕ) (cs : List Const) → Small (map (const_word ss at) cs)
  consts_small ss at [] = tt
  consts_small ss at (c ∷ cs) = (const_small ss at c, consts_small ss at cs)

  static_small : (ss : List Static) (at : List ℕ) (s : Static) → Small (static_words ss at s)
  static_small ss at (Static.Pair a b) = (const_small ss at a, (const_small ss at b, tt))
  static_small ss at (Static.Vector cs) =
      (λ e. absurd (omega arith), every-append (IsSmall bound) _ _ (consts_small ss at cs) (padding-small _))
  static_small ss at (Static.Str bytes) =
      (λ e. absurd (omega arith), every-append (IsSmall bound) _ _ (raw-small bytes) (padding-small _))
  static_small ss at (Static.Sym bytes) =
      (λ e. absurd (omega arith), every-append (IsSmall bound) _ _ (raw-small bytes) (padding-small _))

  all_small : (ss : List Static) (at : List ℕ) (ts : List Static) → Small (all_words ss at ts)
  all_small ss at [] = tt
  all_small ss at (t ∷ ts) = every-append (IsSmall bound) (static_words ss at t) _ (static_small ss at t) (all_small ss at ts)

  pub start-small : (parts : Parts) → Small (start_words parts)
  start-small parts =
      every-append (IsSmall bound) (globals_words parts) _
      (every-append (IsSmall bound) _ _ (every-replicate (IsSmall bound) (length parts.globals) _ tt) (padding-small _))
      (all_small parts.statics _ parts.statics)
