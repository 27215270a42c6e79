-- What an object leads to is what its item leads to.
use Rattle.std.proofs.Common.{◌≡◌, refl, sym, ◌∙◌, subst, ap, ℕ, suc, ◌+◌, ◌≤◌, arith, inl, inr, ⊎_elim, List, [], ◌∷◌, ◌++◌, length, Some, slice_get}
use Rattle.tb_semantics.specs.Graph.{IsIn}
use Rattle.tb_semantics.proofs.ListLemmas.{in-cases, in-left, in-right}
use Rattle.tb_core.specs.Store.{Value}
use Rattle.tb_core.specs.Space.{value_locations, values_locations}
use Rattle.tb_ir.specs.AnfTree.{AnfTree}
use Rattle.tb_ir.specs.Machine.{Empty, Item, bind_all}
use Rattle.tb_ir.specs.Space.{closures_in, item_locations, words_in}
use Rattle.tb_ir.specs.TreeMachine.{env_values}
use Rattle.tb_mac.specs.declared.word.Word.{Word}
use Rattle.tb_mac.specs.LiveWords.{closure_count, data_size, pointing_words, targets, targets_from}
use Rattle.tb_mac.specs.Words.{on_some}
use Rattle.tb_codegen.specs.Notes.{Note}
use Rattle.tb_codegen.specs.Generate.{captured_in}
use Rattle.tb_codegen.proofs.Memories.{plain_word}
use Rattle.tb_codegen.proofs.Rel.{Fill, Lk, ORel, o_cell, o_pair, o_vector, o_string, o_symbol, o_procedure, PRel, p_none, p_full, p_zero, World, WRel, w_fix, w_char, w_false, w_true, w_nil, w_unspecified, w_undefined, w_end, w_at}

-- an address has a location among these
pub record Match (w : World) (ls : List ℕ) (a : ℕ) : Type 0 where
  pub location : ℕ
  pub tag : ℕ
  pub among : IsIn location ls
  pub link : IsIn (Lk tag a location) w

pub match_more : (w : World) (ls ms : List ℕ) (a : ℕ) → ((l : ℕ) → IsIn l ls → IsIn l ms) → Match w ls a → Match w ms a
match_more w ls ms a f h = record { location = h.location; tag = h.tag; among = f h.location h.among; link = h.link }

-- where a word of a value points to
pub word_target : (w : World) (u : Word) (v : Value) (a : ℕ) → WRel w u v → IsIn a (targets u) → Match w (value_locations v) a
word_target w u v a (w_fix n) i = absurd i
word_target w u v a (w_char n) i = absurd i
word_target w u v a w_false i = absurd i
word_target w u v a w_true i = absurd i
word_target w u v a w_nil i = absurd i
word_target w u v a w_unspecified i = absurd i
word_target w u v a w_undefined i = absurd i
word_target w u v a w_end i = absurd i
word_target w u v a (w_at {t = t} {a = b} {l = l} k) (inl e) = record { location = l; tag = t; among = inl refl; link = subst (λ a. IsIn (Lk t a l) w) e k }
word_target w u v a (w_at k) (inr i) = absurd i

-- and words of values
pub words_target : (w : World) (heap : List Word) (at j : ℕ) (vs : List Value) (a : ℕ) → PRel w heap at j vs → IsIn a (targets_from heap at (length vs)) → Match w (values_locations vs) a
words_target w heap at j vs a p_none i = absurd i
words_target w heap at j vs a (p_full {u = u} {v = v} {vs = vs2} e r p) i =
    let z : suc at ≡ at + 1 = omega arith in
    ⊎_elim
    (λ k. match_more w (value_locations v) _ a (λ l. in-left (value_locations v) (values_locations vs2) l) (word_target w u v a r k))
    (λ k. match_more w (values_locations vs2) _ a (λ l. in-right (value_locations v) (values_locations vs2) l) (words_target w heap (suc at) _ vs2 a p (subst (λ n. IsIn a (targets_from heap n (length vs2))) (sym z) k)))
    (in-cases (targets u) (targets_from heap (at + 1) (length vs2)) a (subst (λ o. IsIn a (on_some o [] targets ++ targets_from heap (at + 1) (length vs2))) e i))
words_target w heap at j vs a (p_zero {v = v} {vs = vs2} e p) i =
    let z : suc at ≡ at + 1 = omega arith in
    match_more w (values_locations vs2) _ a (λ l. in-right (value_locations v) (values_locations vs2) l)
    (words_target w heap (suc at) _ vs2 a p (subst (λ n. IsIn a (targets_from heap n (length vs2))) (sym z) (subst (λ o. IsIn a (on_some o [] targets ++ targets_from heap (at + 1) (length vs2))) e i)))

plain_points : (w : World) (u : Word) (v : Value) → WRel w u v → pointing_words (Some u) ≡ 2
plain_points w u v (w_fix n) = refl
plain_points w u v (w_char n) = refl
plain_points w u v w_false = refl
plain_points w u v w_true = refl
plain_points w u v w_nil = refl
plain_points w u v w_unspecified = refl
plain_points w u v w_undefined = refl
plain_points w u v w_end = refl
plain_points w u v (w_at k) = refl

plain_closures : (w : World) (u : Word) (v : Value) → WRel w u v → closure_count (Some u) ≡ 0
plain_closures w u v r = (plain_word w u v r).closures

plain_data : (w : World) (u : Word) (v : Value) → WRel w u v → data_size (Some u) ≡ 3
plain_data w u v r = (plain_word w u v r).words

pub env_bind_all : (xs : List ℕ) (us : List Value) → length us ≡ length xs → env_values (bind_all xs us Empty) ≡ us
env_bind_all [] [] e = refl
env_bind_all [] (u ∷ us) e = absurd (omega arith)
env_bind_all (x ∷ xs) [] e = absurd (omega arith)
env_bind_all (x ∷ xs) (u ∷ us) e = ap (λ us. u ∷ us) (env_bind_all xs us (omega arith))

module _ (p : AnfTree) (notes : List Note) where
  pub object_target : (w : World) (heap : List Word) (q : Fill) (at : ℕ) (i : Item) (a : ℕ) → ORel p notes w heap q at i → IsIn a (targets_from heap at (pointing_words (slice_get heap at))) → Match w (item_locations i) a
  object_target w heap q at i a (o_cell {v = v} hd pr) k =
      let k2 : IsIn a (targets_from heap (at + 1) 1) = subst (λ o. IsIn a (on_some o [] targets ++ targets_from heap (at + 1) 1)) hd (subst (λ o. IsIn a (targets_from heap at (pointing_words o))) hd k) in
      match_more w (values_locations (v ∷ [])) _ a (λ l j. ⊎_elim (λ j. j) (λ j. absurd j) (in-cases (value_locations v) [] l j)) (words_target w heap (at + 1) 1 (v ∷ []) a pr k2)
  object_target w heap q at i a (o_pair {u = u} {v = v} (p_full {u = x} e r pr)) k =
      let two : pointing_words (slice_get heap at) ≡ 2 = ap pointing_words e ∙ plain_points w x u r in
      match_more w (values_locations (u ∷ v ∷ [])) _ a
      (λ l j. ⊎_elim (in-left (value_locations u) (value_locations v) l) (λ j. in-right (value_locations u) (value_locations v) l (⊎_elim (λ j. j) (λ j. absurd j) (in-cases (value_locations v) [] l j))) (in-cases (value_locations u) (value_locations v ++ []) l j))
      (words_target w heap at 2 (u ∷ v ∷ []) a (p_full e r pr) (subst (λ n. IsIn a (targets_from heap at n)) two k))
  object_target w heap q at i a (o_vector {vs = vs} few hd pr) k =
      let n : length vs + 1 ≡ suc (length vs) = omega arith in
      let k1 : IsIn a (targets_from heap at (suc (length vs))) = subst (λ n. IsIn a (targets_from heap at n)) (ap pointing_words hd ∙ n) k in
      words_target w heap (at + 1) (length vs) vs a pr (subst (λ o. IsIn a (on_some o [] targets ++ targets_from heap (at + 1) (length vs))) hd k1)
  object_target w heap q at i a (o_string few hd pr) k = absurd (subst (λ n. IsIn a (targets_from heap at n)) (ap pointing_words hd) k)
  object_target w heap q at i a (o_symbol few hd pr) k = absurd (subst (λ n. IsIn a (targets_from heap at n)) (ap pointing_words hd) k)
  object_target w heap q at i a (o_procedure m e us {r = r} hd cd note long er pr) k =
      let n : length us + 2 ≡ suc (suc (length us)) = omega arith in
      let k1 : IsIn a (targets_from heap at (suc (suc (length us)))) = subst (λ n. IsIn a (targets_from heap at n)) (ap pointing_words hd ∙ n) k in
      let k2 : IsIn a (targets_from heap (at + 1) (suc (length us))) = subst (λ o. IsIn a (on_some o [] targets ++ targets_from heap (at + 1) (suc (length us)))) hd k1 in
      let k3 : IsIn a (targets_from heap (at + 1 + 1) (length us)) = subst (λ o. IsIn a (on_some o [] targets ++ targets_from heap (at + 1 + 1) (length us))) cd k2 in
      let z : at + 1 + 1 ≡ at + 2 = omega arith in
      let same : us ≡ env_values r = sym (ap env_values er ∙ env_bind_all (captured_in p m) us long) in
      subst (λ us. Match w (values_locations us) a) same (words_target w heap (at + 2) _ us a pr (subst (λ n. IsIn a (targets_from heap n (length us))) z k3))

  -- sizes
  pub closure_fits : (w : World) (heap : List Word) (q : Fill) (at : ℕ) (i : Item) → ORel p notes w heap q at i → closure_count (slice_get heap at) ≤ closures_in i
  closure_fits w heap q at i (o_cell hd pr) = let e = ap closure_count hd in omega arith
  closure_fits w heap q at i (o_pair (p_full {u = x} {v = v} e r pr)) = let f = ap closure_count e in let g = plain_closures w x v r in omega arith
  closure_fits w heap q at i (o_vector few hd pr) = let e = ap closure_count hd in omega arith
  closure_fits w heap q at i (o_string few hd pr) = let e = ap closure_count hd in omega arith
  closure_fits w heap q at i (o_symbol few hd pr) = let e = ap closure_count hd in omega arith
  closure_fits w heap q at i (o_procedure m x us hd cd note long er pr) = let e = ap closure_count hd in omega arith

  pub data_fits : (w : World) (heap : List Word) (q : Fill) (at : ℕ) (i : Item) → ORel p notes w heap q at i → data_size (slice_get heap at) ≤ words_in i
  data_fits w heap q at i (o_cell hd pr) = let e = ap data_size hd in omega arith
  data_fits w heap q at i (o_pair (p_full {u = x} {v = v} e r pr)) = let f = ap data_size e in let g = plain_data w x v r in omega arith
  data_fits w heap q at i (o_vector few hd pr) = let e = ap data_size hd in omega arith
  data_fits w heap q at i (o_string few hd pr) = let e = ap data_size hd in omega arith
  data_fits w heap q at i (o_symbol few hd pr) = let e = ap data_size hd in omega arith
  data_fits w heap q at i (o_procedure m x us hd cd note long er pr) = let e = ap data_size hd in omega arith
