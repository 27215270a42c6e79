-- The bits of a live map are the entries of its note.
use Rattle.std.proofs.Common.{◌≡◌, refl, sym, ◌∙◌, subst, ap, ℕ, zero, suc, ◌+◌, ◌-◌, ◌*◌, ◌/◌, ◌%◌, ◌^◌, ◌<◌, ◌==◌, ◌||◌, Bool, cond, true, false, arith, inl, inr, ⊎_elim, List, [], ◌∷◌, Some, slice_get, ne_eqb}
use Rattle.std.proofs.lemmas.Bool.{cases_Bool, cases_eq}
use Rattle.std.proofs.lemmas.Nat.{div-mul-add, pow-add}
use Rattle.std.proofs.Math.Nat.{add-mul-div_left, pow-suc}
use Rattle.tb_semantics.specs.Graph.{IsIn}
use Rattle.tb_mac.specs.LiveWords.{chosen, chosen_from, is_bit_set}
use Rattle.tb_mac.specs.declared.word.Word.{Word}
use Rattle.tb_codegen.specs.Notes.{Spot, Reg, Slot, Symbol, Entry, Stands, any, is_register, is_slot, register_bits, slot_bits}

twice : (n : ℕ) → 2 ^ suc n ≡ 2 ^ n + 2 ^ n
twice n = let h = pow-suc 2 n in omega (arith, h)

positive : (n : ℕ) → 0 < 2 ^ n
positive zero = omega arith
positive (suc n) = let h = positive n in let e = twice n in omega arith

bits_below : (es : List Entry) (n : ℕ) → register_bits es n < 2 ^ n
bits_below es zero = omega arith
bits_below es (suc n) =
    let h = bits_below es n in
    let e = twice n in
    elim (any (is_register n) es) as (λ b. register_bits es n + cond b (2 ^ n) 0 < 2 ^ suc n) [
      | true ↦ omega arith
      | false ↦ omega arith
    ]

top_digit : (b : Bool) (s w : ℕ) → s < w → (((s + cond b w 0) / w) % 2 == 1) ≡ b
top_digit true s w lt =
    let e : s + w ≡ 1 * w + s = omega arith in
    let q : (s + w) / w ≡ 1 = ap (λ n. n / w) e ∙ div-mul-add 1 w s lt in
    rw q refl
top_digit false s w lt =
    let e : s + 0 ≡ 0 * w + s = omega arith in
    let q : (s + 0) / w ≡ 0 = ap (λ n. n / w) e ∙ div-mul-add 0 w s lt in
    rw q refl

low_digit : (b : Bool) (s a k : ℕ) → (((s + cond b (2 ^ (a + suc k)) 0) / 2 ^ a) % 2 == 1) ≡ ((s / 2 ^ a) % 2 == 1)
low_digit false s a k = let e : s + 0 ≡ s = omega arith in rw e refl
low_digit true s a k =
    let p1 = pow-add 2 a (suc k) in
    let p2 = pow-suc 2 k in
    let e : 2 ^ (a + suc k) ≡ 2 ^ a * (2 ^ k * 2) = p1 ∙ ap (λ n. 2 ^ a * n) p2 in
    let q : (s + 2 ^ (a + suc k)) / 2 ^ a ≡ s / 2 ^ a + 2 ^ k * 2 = ap (λ n. (s + n) / 2 ^ a) e ∙ add-mul-div_left s (2 ^ k * 2) (positive a) in
    let m : (s / 2 ^ a + 2 ^ k * 2) % 2 ≡ (s / 2 ^ a) % 2 = omega arith in
    rw (q, m) refl

-- a bit is set where a word stands in the register
pub digit : (es : List Entry) (n a : ℕ) → a < n → is_bit_set (register_bits es n) a ≡ any (is_register a) es
digit es zero a lt = absurd (omega arith)
digit es (suc n) a lt =
    ⊎_elim
    (λ (e : n ≡ a). subst (λ a. is_bit_set (register_bits es (suc n)) a ≡ any (is_register a) es) e (top_digit (any (is_register n) es) (register_bits es n) (2 ^ n) (bits_below es n)))
    (λ ne.
    let k = n - suc a in
    let z : a + suc k ≡ n = omega arith in
    subst (λ m. (((register_bits es n + cond (any (is_register n) es) (2 ^ m) 0) / 2 ^ a) % 2 == 1) ≡ any (is_register a) es) z
    (low_digit (any (is_register n) es) (register_bits es n) a k ∙ digit es n a (omega arith)))
    (cases_eq n a)

-- a register or slot that is marked has an entry
pub record Entered' (es : List Entry) (q : Spot) : Type 0 where
  pub symbol : Symbol
  pub entry : IsIn (Stands q symbol) es

pub register_entry : (es : List Entry) (a : ℕ) → any (is_register a) es ≡ true → Entered' es (Reg a)
register_entry [] a e = cc
register_entry (Stands (Reg b) s ∷ es) a e =
    ⊎_elim
    (λ (q : a ≡ b). record { symbol = s; entry = inl (ap (λ b. Stands (Reg b) s) (sym q)) })
    (λ ne. let t = register_entry es a (subst (λ t. t || any (is_register a) es ≡ true) (ne_eqb a b ne) e) in record { symbol = t.symbol; entry = inr t.entry })
    (cases_eq a b)
register_entry (Stands (Slot b) s ∷ es) a e = let t = register_entry es a e in record { symbol = t.symbol; entry = inr t.entry }

pub slot_entry : (es : List Entry) (a : ℕ) → any (is_slot a) es ≡ true → Entered' es (Slot a)
slot_entry [] a e = cc
slot_entry (Stands (Slot b) s ∷ es) a e =
    ⊎_elim
    (λ (q : a ≡ b). record { symbol = s; entry = inl (ap (λ b. Stands (Slot b) s) (sym q)) })
    (λ ne. let t = slot_entry es a (subst (λ t. t || any (is_slot a) es ≡ true) (ne_eqb a b ne) e) in record { symbol = t.symbol; entry = inr t.entry })
    (cases_eq a b)
slot_entry (Stands (Reg b) s ∷ es) a e = let t = slot_entry es a e in record { symbol = t.symbol; entry = inr t.entry }

-- a word that is chosen stands at some index
pub record Chosen (test : ℕ → Bool) (ws : List Word) (u : Word) : Type 0 where
  pub index : ℕ
  pub passes : test index ≡ true
  pub here : slice_get ws index ≡ Some u

pub from_chosen : (test : ℕ → Bool) (at : ℕ) (ws all : List Word) (u : Word) → ((i : ℕ) (u : Word) → slice_get ws i ≡ Some u → slice_get all (at + i) ≡ Some u) → IsIn u (chosen_from test at ws) → Chosen test all u
from_chosen test at [] all u f i = absurd i
from_chosen test at (w ∷ ws) all u f i =
    let rest : (i : ℕ) (u : Word) → slice_get ws i ≡ Some u → slice_get all (at + 1 + i) ≡ Some u =
    λ i u e. let z : at + suc i ≡ at + 1 + i = omega arith in subst (λ n. slice_get all n ≡ Some u) z (f (suc i) u e) in
    ⊎_elim
    (λ (yes : test at ≡ true).
    let k : IsIn u (w ∷ chosen_from test (at + 1) ws) = subst (λ b. IsIn u (cond b (w ∷ chosen_from test (at + 1) ws) (chosen_from test (at + 1) ws))) yes i in
    ⊎_elim
    (λ e. let z : at + 0 ≡ at = omega arith in record { index = at; passes = yes; here = subst (λ n. slice_get all n ≡ Some u) z (f 0 u (ap Some e)) })
    (λ j. from_chosen test (at + 1) ws all u rest j) k)
    (λ (n : test at ≡ false).
    from_chosen test (at + 1) ws all u rest (subst (λ b. IsIn u (cond b (w ∷ chosen_from test (at + 1) ws) (chosen_from test (at + 1) ws))) n i))
    (cases_Bool (test at))

pub from_slots : (es : List Entry) (at n : ℕ) (ws all : List Word) (u : Word) → ((i : ℕ) (u : Word) → slice_get ws i ≡ Some u → slice_get all (at + i) ≡ Some u) → IsIn u (chosen (slot_bits es at n) ws) → Chosen (λ i. any (is_slot i) es) all u
from_slots es at zero ws all u f i = absurd i
from_slots es at (suc n) [] all u f i = absurd i
from_slots es at (suc n) (w ∷ ws) all u f i =
    let rest : (i : ℕ) (u : Word) → slice_get ws i ≡ Some u → slice_get all (suc at + i) ≡ Some u =
    λ i u e. let z : at + suc i ≡ suc at + i = omega arith in subst (λ n. slice_get all n ≡ Some u) z (f (suc i) u e) in
    ⊎_elim
    (λ (yes : any (is_slot at) es ≡ true).
    let k : IsIn u (w ∷ chosen (slot_bits es (suc at) n) ws) = subst (λ b. IsIn u (cond b (w ∷ chosen (slot_bits es (suc at) n) ws) (chosen (slot_bits es (suc at) n) ws))) yes i in
    ⊎_elim
    (λ e. let z : at + 0 ≡ at = omega arith in record { index = at; passes = yes; here = subst (λ n. slice_get all n ≡ Some u) z (f 0 u (ap Some e)) })
    (λ j. from_slots es (suc at) n ws all u rest j) k)
    (λ (no' : any (is_slot at) es ≡ false).
    from_slots es (suc at) n ws all u rest (subst (λ b. IsIn u (cond b (w ∷ chosen (slot_bits es (suc at) n) ws) (chosen (slot_bits es (suc at) n) ws))) no' i))
    (cases_Bool (any (is_slot at) es))
