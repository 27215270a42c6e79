-- The constants of what a text means are short: the limits on words and the fixnums of quoted data see to that.
use Rattle.std.proofs.Common.{◌≡◌, refl, sym, ap, subst, ◌∙◌, ℕ, ◌+◌, ◌<◌, ◌≤◌, ◌^◌, ◌&&◌, ◌||◌, nat_le, arith, Bool, true, false, cond, List, [], ◌∷◌, ◌++◌, length, bytes_eq}
use Rattle.std.specs.List.{list_any}
use Rattle.std.proofs.lemmas.Bool.{leb-true}
use Rattle.std.proofs.lemmas.Slice.Eq.{bytes_eq-Decides}
use Rattle.tb_prim.specs.declared.place.Place.{Place}
use Rattle.tb_core.specs.Rules.{Every}
use Rattle.tb_sexp.specs.Tree as datum
use Rattle.tb_expand.specs.Refusals.{Refusal, Budget}
use Rattle.tb_expand.specs.Scopes.{State}
use Rattle.tb_expand.specs.Limits.{Within, Past, even, byte_words, one_object, symbol_object, how_many_data, with_objects, with_objects_of, with_pairs, with_each, has_room, with_constant}
use Rattle.tb_expand.specs.Expressions.{are_fixnums, are_fixnums_in, are_fixnums_all}
use Rattle.tb_expand.specs.Constants.{IsShort, IsShortIn, AreShort}

abbrev pub AreShortTexts : List (List ℕ) → Type 0
AreShortTexts ss = Every (λ (s : List ℕ). length s < 2 ^ 24) ss

pub both_true : (a b : Bool) → (a && b) ≡ true → (a ≡ true) × (b ≡ true)
both_true true b h = (refl, h)
both_true false b h = absurd cc

known_case : (s x : List ℕ) (ss : List (List ℕ)) (b : Bool) → bytes_eq s x ≡ b → (list_any (bytes_eq s) ss ≡ true → length s < 2 ^ 24) → length x < 2 ^ 24 → (bytes_eq s x || list_any (bytes_eq s) ss) ≡ true → length s < 2 ^ 24
known_case s x ss true e f k h = subst (λ (y : List ℕ). length y < 2 ^ 24) (sym ((bytes_eq-Decides s x).0 e)) k
known_case s x ss false e f k h = f (sym (ap (λ b. b || list_any (bytes_eq s) ss) e) ∙ h)

short_known : (s : List ℕ) (ss : List (List ℕ)) → list_any (bytes_eq s) ss ≡ true → AreShortTexts ss → length s < 2 ^ 24
short_known s [] h k = absurd cc
short_known s (x ∷ ss) h k = known_case s x ss (bytes_eq s x) refl (λ h. short_known s ss h k.1) k.0 h

short_added : (ss : List (List ℕ)) (s : List ℕ) → AreShortTexts ss → length s < 2 ^ 24 → AreShortTexts (ss ++ s ∷ [])
short_added [] s h k = (k, tt)
short_added (x ∷ ss) s h k = (h.0, short_added ss s h.1 k)

short_bytes : (s : List ℕ) (w : ℕ) → w + byte_words s ≤ 4194304 → length s < 2 ^ 24
short_bytes s w h = omega arith

-- words are only added
symbol_grows : (b : Bool) (s : List ℕ) (st : State) → st.words ≤ (symbol_object b s st).words
symbol_grows true s st = omega arith
symbol_grows false s st = omega arith

mutual
  words_grow : (d : datum.Tree) (st : State) → st.words ≤ (with_objects d st).words
  words_grow (datum.At p s) st = words_grow_in s st

  words_grow_in : (s : datum.Shape) (st : State) → st.words ≤ (with_objects_of s st).words
  words_grow_in datum.Nil st = omega arith
  words_grow_in (datum.Truth b) st = omega arith
  words_grow_in (datum.Fixnum n) st = omega arith
  words_grow_in (datum.Character c) st = omega arith
  words_grow_in (datum.String s) st = omega arith
  words_grow_in (datum.Name s alias) st = symbol_grows (list_any (bytes_eq s) st.symbols) s st
  words_grow_in (datum.Proper ds) st = pairs_grow ds st
  words_grow_in (datum.Dotted ds d) st = let a = pairs_grow ds st in let b = words_grow d (with_pairs ds st) in omega arith
  words_grow_in (datum.Vector ds) st = let a = each_grow ds (one_object (even (1 + how_many_data ds)) st) in omega arith

  pairs_grow : (ds : datum.Trees) (st : State) → st.words ≤ (with_pairs ds st).words
  pairs_grow datum.none st = omega arith
  pairs_grow (datum.more d ds) st = let a = words_grow d (one_object 2 st) in let b = pairs_grow ds (with_objects d (one_object 2 st)) in omega arith

  each_grow : (ds : datum.Trees) (st : State) → st.words ≤ (with_each ds st).words
  each_grow datum.none st = omega arith
  each_grow (datum.more d ds) st = let a = words_grow d st in let b = each_grow ds (with_objects d st) in omega arith

-- data within the limit are short
symbol_short : (b : Bool) (s : List ℕ) (st : State) → list_any (bytes_eq s) st.symbols ≡ b → AreShortTexts st.symbols → (symbol_object b s st).words ≤ 4194304 →
    (length s < 2 ^ 24) × AreShortTexts (symbol_object b s st).symbols
symbol_short true s st e h le = (short_known s st.symbols e h, h)
symbol_short false s st e h le = let k = short_bytes s st.words le in (k, short_added st.symbols s h k)

mutual
  datum_short : (d : datum.Tree) (st : State) → are_fixnums d ≡ true → AreShortTexts st.symbols → (with_objects d st).words ≤ 4194304 → IsShort d × AreShortTexts (with_objects d st).symbols
  datum_short (datum.At p s) st f h le = shape_short s st f h le

  pub shape_short : (s : datum.Shape) (st : State) → are_fixnums_in s ≡ true → AreShortTexts st.symbols → (with_objects_of s st).words ≤ 4194304 → IsShortIn s × AreShortTexts (with_objects_of s st).symbols
  shape_short datum.Nil st f h le = (tt, h)
  shape_short (datum.Truth b) st f h le = (tt, h)
  shape_short (datum.Fixnum n) st f h le = (f, h)
  shape_short (datum.Character c) st f h le = (tt, h)
  shape_short (datum.String s) st f h le = (short_bytes s st.words le, h)
  shape_short (datum.Name s alias) st f h le = symbol_short (list_any (bytes_eq s) st.symbols) s st refl h le
  shape_short (datum.Proper ds) st f h le = pairs_short ds st f h le
  shape_short (datum.Dotted ds d) st f h le =
      let g = both_true (are_fixnums_all ds) (are_fixnums d) f in
      let w = words_grow d (with_pairs ds st) in
      let a = pairs_short ds st g.0 h (omega arith) in
      let b = datum_short d (with_pairs ds st) g.1 a.1 le in
      ((a.0, b.0), b.1)
  shape_short (datum.Vector ds) st f h le =
      let w = each_grow ds (one_object (even (1 + how_many_data ds)) st) in
      let a = each_short ds (one_object (even (1 + how_many_data ds)) st) f h le in
      ((omega arith, a.0), a.1)

  pairs_short : (ds : datum.Trees) (st : State) → are_fixnums_all ds ≡ true → AreShortTexts st.symbols → (with_pairs ds st).words ≤ 4194304 → AreShort ds × AreShortTexts (with_pairs ds st).symbols
  pairs_short datum.none st f h le = (tt, h)
  pairs_short (datum.more d ds) st f h le =
      let g = both_true (are_fixnums d) (are_fixnums_all ds) f in
      let w = pairs_grow ds (with_objects d (one_object 2 st)) in
      let a = datum_short d (one_object 2 st) g.0 h (omega arith) in
      let b = pairs_short ds (with_objects d (one_object 2 st)) g.1 a.1 le in
      ((a.0, b.0), b.1)

  each_short : (ds : datum.Trees) (st : State) → are_fixnums_all ds ≡ true → AreShortTexts st.symbols → (with_each ds st).words ≤ 4194304 → AreShort ds × AreShortTexts (with_each ds st).symbols
  each_short datum.none st f h le = (tt, h)
  each_short (datum.more d ds) st f h le =
      let g = both_true (are_fixnums d) (are_fixnums_all ds) f in
      let w = each_grow ds (with_objects d st) in
      let a = datum_short d st g.0 h (omega arith) in
      let b = each_short ds (with_objects d st) g.1 a.1 le in
      ((a.0, b.0), b.1)

pub within_one : (b : Bool) (new st : State) (r : Refusal) → cond b (Within new) (Past r) ≡ Within st → (b ≡ true) × (new ≡ st)
within_one true new st r e = (refl, cc)
within_one false new st r e = absurd cc

pub constant_short : (p : Place) (s : datum.Shape) (st st' : State) → with_constant p s st ≡ Within st' → are_fixnums_in s ≡ true → AreShortTexts st.symbols → IsShortIn s × AreShortTexts st'.symbols
unfolding with_constant
constant_short p s st st' e f h =
    let o = within_one (has_room (with_objects_of s st)) (with_objects_of s st) st' (Budget p) e in
    let r = both_true (nat_le (with_objects_of s st).objects 1000000) (nat_le (with_objects_of s st).words 4194304) o.0 in
    let a = shape_short s st f h (leb-true (with_objects_of s st).words 4194304 r.1) in
    (a.0, subst (λ (x : State). AreShortTexts x.symbols) o.1 a.1)
