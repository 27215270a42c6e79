-- The heap and the store, when a word is written and when an object is made.
use Rattle.std.proofs.Common.{◌≡◌, refl, sym, ◌∙◌, subst, subst₂, ap, ℕ, zero, suc, ◌+◌, ◌<◌, ◌≤◌, ◌⊎◌, inl, ⊎_elim, arith, List, [], ◌∷◌, ◌++◌, length, Some, slice_get, slice_set, length-set}
use Rattle.std.proofs.lemmas.Bool.{cases_eq}
use Rattle.std.proofs.lemmas.List.{length-append}
use Rattle.tb_semantics.proofs.ListLemmas.{get-left}
use Rattle.tb_core.specs.Store.{Value}
use Rattle.tb_mac.specs.declared.word.Word.{Word}
use Rattle.tb_mac.specs.declared.word.Word.TheVariants as W
use Rattle.tb_mac.specs.LiveWords.{closure_count, data_size, object_size as words_from}
use Rattle.tb_codegen.proofs.Envs.{get-set, get-set-other, get-within}
use Rattle.tb_codegen.proofs.Holding.{w-more}
use Rattle.tb_codegen.proofs.Rel.{Chained, ch_end, ch_more, Grows, PRel, p_none, p_full, p_zero, World, WRel, w_fix, w_char, w_false, w_true, w_nil, w_unspecified, w_undefined, w_end, w_at}

-- a word that begins no object but a pair
pub record IsPlain (u : Word) : Type 0 where
  pub size : words_from (Some u) ≡ 2
  pub closures : closure_count (Some u) ≡ 0
  pub words : data_size (Some u) ≡ 3

pub plain_word : (w : World) (u : Word) (v : Value) → WRel w u v → IsPlain u
plain_word w u v (w_fix n) = record { size = refl; closures = refl; words = refl }
plain_word w u v (w_char n) = record { size = refl; closures = refl; words = refl }
plain_word w u v w_false = record { size = refl; closures = refl; words = refl }
plain_word w u v w_true = record { size = refl; closures = refl; words = refl }
plain_word w u v w_nil = record { size = refl; closures = refl; words = refl }
plain_word w u v w_unspecified = record { size = refl; closures = refl; words = refl }
plain_word w u v w_undefined = record { size = refl; closures = refl; words = refl }
plain_word w u v w_end = record { size = refl; closures = refl; words = refl }
plain_word w u v (w_at i) = record { size = refl; closures = refl; words = refl }

pub plain_raw : (bs : List ℕ) → IsPlain (W.Raw bs)
plain_raw bs = record { size = refl; closures = refl; words = refl }

-- two heaps have the same words from one word to another
pub record Agree (heap heap2 : List Word) (a b : ℕ) : Type 0 where
  pub agree : (k : ℕ) (u : Word) → a ≤ k → k < b → slice_get heap k ≡ Some u → slice_get heap2 k ≡ Some u

pub agree_set : (heap : List Word) (k : ℕ) (u : Word) (a b : ℕ) → (k < a) ⊎ (b ≤ k) → Agree heap (slice_set heap k u) a b
agree_set heap k u a b out = record { agree = λ i v le lt e. get-set-other heap k i v u (λ q. ⊎_elim (λ h. absurd (omega arith)) (λ h. absurd (omega arith)) out) e }

pub agree_left : (heap ws : List Word) (a b : ℕ) → Agree heap (heap ++ ws) a b
agree_left heap ws a b = record { agree = λ k u le lt e. get-left heap ws k u e }

pub p_agree : (w z : World) → Grows w z → (heap heap2 : List Word) (a j b : ℕ) (vs : List Value) → a + length vs ≤ b → Agree heap heap2 a b → PRel w heap a j vs → PRel z heap2 a j vs
p_agree w z g heap heap2 a j b vs le h p_none = p_none
p_agree w z g heap heap2 a j b (v ∷ vs) le h (p_full {u = u} e r p) =
    p_full (h.agree a u (omega arith) (omega arith) e) (w-more w z g _ _ r) (p_agree w z g heap heap2 (suc a) _ b vs (omega arith) (record { agree = λ k u le lt e. h.agree k u (omega arith) lt e }) p)
p_agree w z g heap heap2 a j b (v ∷ vs) le h (p_zero e p) =
    p_zero (h.agree a _ (omega arith) (omega arith) e) (p_agree w z g heap heap2 (suc a) 0 b vs (omega arith) (record { agree = λ k u le lt e. h.agree k u (omega arith) lt e }) p)

-- a word of those that hold values
pub p_get : (w : World) (heap : List Word) (a j : ℕ) (vs : List Value) (i : ℕ) (v : Value) → PRel w heap a j vs → i < j → slice_get vs i ≡ Some v →
    (u : Word) × (slice_get heap (a + i) ≡ Some u) × WRel w u v
p_get w heap a j [] i v p lt e = cc
p_get w heap a (suc j) (x ∷ vs) zero v (p_full {u = u} f r p) lt e =
    let q : x ≡ v = cc (e) in
    let z : a + 0 ≡ a = omega arith in
    (u, subst (λ n. slice_get heap n ≡ Some u) (sym z) f, subst (λ v. WRel w u v) q r)
p_get w heap a (suc j) (x ∷ vs) (suc i) v (p_full f r p) lt e =
    let t = p_get w heap (suc a) j vs i v p (omega arith) e in
    let z : suc a + i ≡ a + suc i = omega arith in
    (t.0, subst (λ n. slice_get heap n ≡ Some t.0) z t.1, t.2)
p_get w heap a j (x ∷ vs) i v (p_zero f p) lt e = absurd (omega arith)

-- one of them is written
pub p_set : (w : World) (heap : List Word) (a j : ℕ) (vs : List Value) (i : ℕ) (u : Word) (v : Value) → i < j → j ≤ length vs → WRel w u v → PRel w heap a j vs →
    PRel w (slice_set heap (a + i) u) a j (slice_set vs i v)
p_set w heap a j [] i u v lt le r p = absurd (omega arith)
p_set w heap a (suc j) (x ∷ vs) zero u v lt le r (p_full f q p) =
    let z : a + 0 ≡ a = omega arith in
    subst (λ n. PRel w (slice_set heap n u) a (suc j) (v ∷ vs)) (sym z)
    (p_full (get-set heap a u (get-within heap a _ f)) r (p_agree w w (λ k i. i) heap (slice_set heap a u) (suc a) j (suc a + length vs) vs (omega arith) (agree_set heap a u (suc a) (suc a + length vs) (inl (omega arith))) p))
p_set w heap a (suc j) (x ∷ vs) (suc i) u v lt le r (p_full {u = y} f q p) =
    let z : suc a + i ≡ a + suc i = omega arith in
    p_full (get-set-other heap (a + suc i) a y u (λ e. absurd (omega arith)) f) q
    (subst (λ n. PRel w (slice_set heap n u) (suc a) j (slice_set vs i v)) z (p_set w heap (suc a) j vs i u v (omega arith) (omega arith) r p))
p_set w heap a j (x ∷ vs) i u v lt le r (p_zero f p) = absurd (omega arith)

-- objects that follow one another
pub chained_set : (heap : List Word) (k : ℕ) (old u : Word) (a n : ℕ) → slice_get heap k ≡ Some old → IsPlain old → IsPlain u → Chained heap a n → Chained (slice_set heap k u) a n
chained_set heap k old u a n e po pu (ch_end q) = ch_end (q ∙ sym (length-set heap k u))
chained_set heap k old u a n e po pu (ch_more {n = m} {u = x} f h) =
    ⊎_elim
    (λ (q : k ≡ a).
    let same : x ≡ old = cc (f, e, q) in
    let g : slice_get (slice_set heap k u) a ≡ Some u = subst (λ a. slice_get (slice_set heap k u) a ≡ Some u) q (get-set heap k u (get-within heap k old e)) in
    let t = chained_set heap k old u _ m e po pu h in
    let xs : words_from (Some x) ≡ 2 = ap (λ y. words_from (Some y)) same ∙ po.size in
    let xc : closure_count (Some x) ≡ 0 = ap (λ y. closure_count (Some y)) same ∙ po.closures in
    let xd : data_size (Some x) ≡ 3 = ap (λ y. data_size (Some y)) same ∙ po.words in
    let t2 : Chained (slice_set heap k u) (a + words_from (Some u)) m = subst (λ s. Chained (slice_set heap k u) (a + s) m) (xs ∙ sym pu.size) t in
    let r = ch_more g t2 in
    subst₂ (λ s d. Chained (slice_set heap k u) a (s + d + m)) (pu.closures ∙ sym xc) (pu.words ∙ sym xd) r)
    (λ ne. ch_more (get-set-other heap k a x u (λ q. ne (sym q)) f) (chained_set heap k old u _ m e po pu h))
    (cases_eq k a)

pub chained_new : (heap ws : List Word) (u : Word) (a n : ℕ) → length ws ≡ words_from (Some u) → slice_get (heap ++ ws) (length heap) ≡ Some u →
    Chained heap a n → Chained (heap ++ ws) a (n + (closure_count (Some u) + data_size (Some u)))
chained_new heap ws u a n long head (ch_end q) =
    let e : length heap + words_from (Some u) ≡ length (heap ++ ws) = ap (λ s. length heap + s) (sym long) ∙ sym (length-append heap ws) in
    let t : Chained (heap ++ ws) (length heap + words_from (Some u)) 0 = ch_end e in
    let r = ch_more head t in
    let z : closure_count (Some u) + data_size (Some u) + 0 ≡ 0 + (closure_count (Some u) + data_size (Some u)) = omega arith in
    subst₂ (λ a n. Chained (heap ++ ws) a n) (sym q) z r
chained_new heap ws u a n long head (ch_more {n = m} {u = x} f h) =
    let r = ch_more (get-left heap ws a x f) (chained_new heap ws u _ m long head h) in
    let z : closure_count (Some x) + data_size (Some x) + (m + (closure_count (Some u) + data_size (Some u))) ≡ closure_count (Some x) + data_size (Some x) + m + (closure_count (Some u) + data_size (Some u)) = omega arith in
    subst (λ n. Chained (heap ++ ws) a n) z r
