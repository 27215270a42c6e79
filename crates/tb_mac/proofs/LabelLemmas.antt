-- Lemmas on tables of labels.
use Rattle.std.proofs.Common.{◌≡◌, ◌≢◌, refl, sym, ap, ◌∙◌, subst, ℕ, suc, ◌+◌, ◌<◌, ◌⊎◌, ⊎_elim, inl, inr, Bool, true, false, cond, List, [], ◌∷◌, ◌++◌, length, get_or, drop, Option, Some, None, nat_eq, append_assoc, append-nil, add-one, arith}
use Rattle.std.proofs.Math.Seq.{drop-cons}
use Rattle.std.proofs.lemmas.Bool.{eqb-true}
use Rattle.std.proofs.lemmas.Bool.Decides.{eqb_tells}
use Rattle.std.specs.Map.{lookup, keys_of}
use Rattle.tb_semantics.specs.Graph.{IsApart, IsIn}
use Rattle.tb_semantics.proofs.ListLemmas.{in-cases}
use Rattle.tb_prim.specs.declared.place.Place.{Place}
use Rattle.tb_mac.specs.declared.code.Instr.{Instr}
use Rattle.tb_mac.specs.declared.code.LiveMap.{LiveMap}
use Rattle.tb_mac.specs.declared.code.PlaceEntry.{PlaceEntry}
use Rattle.tb_mac.specs.declared.refusal.AsmRefusal.{AsmRefusal}
use Rattle.tb_mac.specs.declared.refusal.AsmRefusal.TheVariants.{NoLabel, TwiceLabel, NoMemory}
use Rattle.tb_mac.specs.declared.item.Item.{Item}
use Rattle.tb_mac.specs.declared.item.Item.TheVariants.{Label, Ins}
use Rattle.tb_mac.specs.Assemble.{instructions, item_places, labels, placed_at, stands_at}
use Rattle.tb_mac.specs.calls.Labels.{HasAll, IsFirstAbsent, Misses, StandsTwice, StoodBefore, Table, labelled}

-- a label that is found in a table is one of its labels, and one of its labels is found
pub found-in : (es : Table) (l v : ℕ) → lookup (nat_eq l) es ≡ Some v → IsIn l (keys_of es)
found-in [] l v e = cc
found-in (p ∷ es) l v e = by (nat_eq l p.0) refl (found-in es l v)
  where
    by : (b : Bool) → nat_eq l p.0 ≡ b → (lookup (nat_eq l) es ≡ Some v → IsIn l (keys_of es)) → IsIn l (keys_of (p ∷ es))
    by true h so = inl (sym (eqb-true l p.0 h))
    by false h so = inr (so (rw h at e))

some-none : {v : ℕ} → Some v ≡ None → ⊥
some-none e = cc

true-false : true ≡ false → ⊥
true-false e = cc

false-same : (a b : ℕ) → nat_eq a b ≡ false → a ≡ b → ⊥
false-same a b h e = ⊎_elim (λ w. true-false (sym w.0 ∙ h)) (λ w. w.1 e) (eqb_tells a b)

pub in-found : (es : Table) (l : ℕ) → IsIn l (keys_of es) → lookup (nat_eq l) es ≡ None → ⊥
in-found [] l i e = i
in-found (p ∷ es) l i e = by (nat_eq l p.0) refl i (in-found es l)
  where
    by : (b : Bool) → nat_eq l p.0 ≡ b → IsIn l (keys_of (p ∷ es)) →
        (IsIn l (keys_of es) → lookup (nat_eq l) es ≡ None → ⊥) → ⊥
    by true h j so = some-none (rw h at e)
    by false h (inl j) so = false-same l p.0 h (sym j)
    by false h (inr j) so = so j (rw h at e)

-- a list without repeats and one more element that is not in it
pub apart-last : (xs : List ℕ) (x : ℕ) → IsApart xs → (IsIn x xs → ⊥) → IsApart (xs ++ x ∷ [])
apart-last [] x a n = (λ i. i, tt)
apart-last (y ∷ xs) x a n = (
  λ i. ⊎_elim a.0 (λ j. ⊎_elim (λ e. n (inl (sym e))) (λ k. k) j) (in-cases xs (x ∷ []) y i),
  apart-last xs x a.1 (λ i. n (inr i)),
)

-- the labels of a table of items
pub labelled-keys : (n : ℕ) (is : List Item) → keys_of (labelled n is) ≡ labels is
labelled-keys n [] = refl
labelled-keys n (Label l ∷ is) = ap (λ ls. l ∷ ls) (labelled-keys n is)
labelled-keys n (Ins i m p ∷ is) = labelled-keys (suc n) is

-- the number of a label in that table is where it stands
pub labelled-stands : (l n : ℕ) (is : List Item) → stands_at l n is ≡ lookup (nat_eq l) (labelled n is)
labelled-stands l n [] = refl
labelled-stands l n (Label k ∷ is) = same (nat_eq k l) (nat_eq l k) refl refl (labelled-stands l n is)
  where
    same : (a b : Bool) → nat_eq k l ≡ a → nat_eq l k ≡ b → stands_at l n is ≡ lookup (nat_eq l) (labelled n is) →
        cond a (Some n) (stands_at l n is) ≡ cond b (Some n) (lookup (nat_eq l) (labelled n is))
    same true true p q so = refl
    same false false p q so = so
    same true false p q so = absurd (false-same l k q (sym (eqb-true k l p)))
    same false true p q so = absurd (false-same k l p (sym (eqb-true l k q)))
labelled-stands l n (Ins i m p ∷ is) = labelled-stands l (suc n) is

-- a table that was made of the first items, where others are left and so many instructions stood before them
pub record Noting (items left : List Item) (es : Table) (count : ℕ) : Type 0 where
  pub made : es ++ labelled count left ≡ labelled 0 items
  pub apart : IsApart (keys_of es)
  pub counted : count + length (instructions left) ≡ length (instructions items)

keys-append : (es fs : Table) → keys_of (es ++ fs) ≡ keys_of es ++ keys_of fs
keys-append [] fs = refl
keys-append (e ∷ es) fs = ap (λ ls. e.0 ∷ ls) (keys-append es fs)

-- a label that stood among the first items stands twice
pub stood-twice : (items left : List Item) (es : Table) (count l : ℕ) (r : AsmRefusal) →
    Noting items (Label l ∷ left) es count → StoodBefore es l r → StandsTwice items r
stood-twice items left es count l (TwiceLabel k) n s = record {
  before = keys_of es;
  behind = labels left;
  stands = sym (labelled-keys 0 items) ∙ ap keys_of (sym n.made)
      ∙ keys-append es (labelled count (Label l ∷ left)) ∙ ap (λ ls. keys_of es ++ ls) (labelled-keys count (Label l ∷ left))
      ∙ ap (λ j. keys_of es ++ j ∷ labels left) (sym s.0);
  apart = n.apart;
  stood = subst (λ j. IsIn j (keys_of es)) (sym s.0) s.1;
}
stood-twice items left es count l (NoLabel k) n s = s
stood-twice items left es count l NoMemory n s = tt

-- a label is noted, and an instruction is passed
pub noted-label : (items left : List Item) (es fs : Table) (count l : ℕ) → Noting items (Label l ∷ left) es count →
    (IsIn l (keys_of es) → ⊥) → fs ≡ es ++ (l, count) ∷ [] → Noting items left fs count
noted-label items left es fs count l n new e =
    subst (λ gs. Noting items left gs count) (sym e) (record {
      made = append_assoc es ((l, count) ∷ []) (labelled count left) ∙ n.made;
      apart = subst IsApart (sym (keys-append es ((l, count) ∷ []))) (apart-last (keys_of es) l n.apart new);
      counted = n.counted;
    })

pub passed-instruction : (items left : List Item) (es : Table) (count : ℕ) (i : Instr) (m : LiveMap) (p : Option Place) →
    Noting items (Ins i m p ∷ left) es count → Noting items left es (count + 1)
passed-instruction items left es count i m p n = rw add-one (record {
  made = n.made;
  apart = n.apart;
  counted = let h = n.counted in omega (arith, h);
})

-- what is left at an item that is read
pub left-at : {X : Type 0} (xs : List X) (i : ℕ) (x : X) → i < length xs → x ≡ get_or xs i x →
    drop i xs ≡ x ∷ drop (i + 1) xs
left-at xs i x lt e = drop-cons xs i x lt ∙ ap (λ y. y ∷ drop (suc i) xs) (sym e) ∙ ap (λ j. x ∷ drop j xs) (sym (add-one i))

pub left-read : {X : Type 0} (xs : List X) (i : ℕ) (x : X) → i < length xs → drop i xs ≡ get_or xs i x ∷ drop (i + 1) xs
left-read xs i x lt = drop-cons xs i x lt ∙ ap (λ j. get_or xs i x ∷ drop j xs) (sym (add-one i))

-- no label of items stands twice, once all are noted
pub all-noted : (items : List Item) (es : Table) (count : ℕ) → Noting items [] es count → IsApart (labels items)
all-noted items es count n =
    subst IsApart (ap keys_of (sym (append-nil es) ∙ n.made) ∙ labelled-keys 0 items) n.apart

-- a label that is found nowhere in a table is the first of one
pub one-absent : (es : Table) (l : ℕ) → lookup (nat_eq l) es ≡ None → Misses es (l ∷ []) (NoLabel l)
one-absent es l e = record {
  before = [];
  behind = [];
  named = refl;
  found = tt;
  absent = λ i. in-found es l i e;
}

pub has-append : (es : Table) (ls ks : List ℕ) → HasAll es ls → HasAll es ks → HasAll es (ls ++ ks)
has-append es [] ks h g = g
has-append es (l ∷ ls) ks h g = (h.0, has-append es ls ks h.1 g)

-- the first label of some that is absent is the first of all, where those before are there
pub absent-behind : (es : Table) (ls ks js all : List ℕ) (l : ℕ) → HasAll es ls → ls ++ (ks ++ js) ≡ all →
    IsFirstAbsent es ks l → IsFirstAbsent es all l
absent-behind es ls ks js all l h e a = record {
  before = ls ++ a.before;
  behind = a.behind ++ js;
  named = sym e ∙ ap (λ xs. ls ++ (xs ++ js)) a.named ∙ ap (λ xs. ls ++ xs) (append_assoc a.before (l ∷ a.behind) js)
      ∙ sym (append_assoc ls a.before (l ∷ (a.behind ++ js)));
  found = has-append es ls a.before h a.found;
  absent = a.absent;
}

pub misses-behind : (es : Table) (ls ks js all : List ℕ) (r : AsmRefusal) → HasAll es ls → ls ++ (ks ++ js) ≡ all →
    Misses es ks r → Misses es all r
misses-behind es ls ks js all (TwiceLabel l) h e m = m
misses-behind es ls ks js all (NoLabel l) h e m = absent-behind es ls ks js all l h e m
misses-behind es ls ks js all NoMemory h e m = tt

-- what was made of the first of some elements, whose labels are in a table: with a function, from the elements
-- and the labels that are left
pub record Numbering {X : Type 0} (es : Table) (out left all : List X) (labels left_labels : List ℕ) : Type 0 where
  pub made : out ++ left ≡ all
  pub before : List ℕ
  pub named : before ++ left_labels ≡ labels
  pub found : HasAll es before

-- one more element is made
pub numbering-one : {X : Type 0} (es : Table) (out left all : List X) (x : X) (ks ls js : List ℕ) →
    Numbering es out (x ∷ left) all ls (ks ++ js) → HasAll es ks → Numbering es (out ++ x ∷ []) left all ls js
numbering-one es out left all x ks ls js n h = record {
  made = append_assoc out (x ∷ []) left ∙ n.made;
  before = n.before ++ ks;
  named = append_assoc n.before ks js ∙ n.named;
  found = has-append es n.before ks n.found h;
}

-- the places of the first items, with so many instructions
pub record Placing (items left : List Item) (places : List PlaceEntry) (count : ℕ) : Type 0 where
  pub made : places ++ item_places count left ≡ item_places 0 items
  pub counted : count + length (instructions left) ≡ length (instructions items)

pub placing-one : (items left : List Item) (places more : List PlaceEntry) (count : ℕ) (i : Instr) (m : LiveMap)
    (p : Option Place) → Placing items (Ins i m p ∷ left) places count → more ≡ places ++ placed_at count p →
    Placing items left more (count + 1)
placing-one items left places more count i m p n e = rw (e, add-one) (record {
  made = append_assoc places (placed_at count p) (item_places (suc count) left) ∙ n.made;
  counted = let h = n.counted in omega (arith, h);
})
