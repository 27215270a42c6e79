-- What a name holds among entries, after one of them is written and after one is added.
use Rattle.std.proofs.Common.{◌≡◌, ◌≢◌, ℕ, zero, suc, Bool, true, false, cond, List, [], ◌∷◌, ◌++◌, get_or, set, Option, Some, None, Ok, refl, sym, ap, ◌∙◌, arith}
use Rattle.std.specs.List.{All}
use Rattle.std.specs.Str.{bytes_eq}
use Rattle.std.proofs.lemmas.Bool.{false_from_ne_true}
use Rattle.std.proofs.lemmas.Slice.Eq.{bytes_eq-Decides}
use Rattle.std.proofs.lemmas.List.Elements.{All-head, All-tail}
use Rattle.tb_base.specs.Memory.{file_of, IsFirstOf}
use Rattle.tb_base.specs.Outside.{SavesTold}
use Rattle.tb_base.specs.declared.entries.Entry.{Entry}

bytes_eq-same : (xs ys : List ℕ) → xs ≡ ys → bytes_eq xs ys ≡ true
bytes_eq-same xs ys e = (bytes_eq-Decides xs ys).1 e

bytes_eq-other : (xs ys : List ℕ) → xs ≢ ys → bytes_eq xs ys ≡ false
bytes_eq-other xs ys h = false_from_ne_true _ (λ e. h ((bytes_eq-Decides xs ys).0 e))

some_ne_none : {X : Type 0} {x : X} → Some x ≡ None → ⊥
some_ne_none e = cc

-- the entry at the front has the name
file_of-here : (entry : Entry) (entries : List Entry) (name : List ℕ) → entry.name ≡ name → file_of (entry ∷ entries) name ≡ Some entry.bytes
file_of-here entry entries name e = rw (bytes_eq-same entry.name name e)

-- the entry at the front has another name
file_of-past : (entry : Entry) (entries : List Entry) (name : List ℕ) → entry.name ≢ name → file_of (entry ∷ entries) name ≡ file_of entries name
file_of-past entry entries name h = rw (bytes_eq-other entry.name name h)

-- where the front has another name, the place behind it is one less
IsFirstOf-tail : (entry : Entry) (entries : List Entry) (name : List ℕ) (i : ℕ) → IsFirstOf (entry ∷ entries) name (suc i) → IsFirstOf entries name i
IsFirstOf-tail entry entries name i h = record {
  within = let w = h.within in omega arith;
  named = λ d. h.named d;
  first = λ k d lt. h.first (suc k) d (omega arith);
}

pub file_of-first : (entries : List Entry) (name : List ℕ) (i : ℕ) → IsFirstOf entries name i → (d : Entry) → file_of entries name ≡ Some (get_or entries i d).bytes
file_of-first [] name i h d = absurd (let w = h.within in omega arith)
file_of-first (entry ∷ entries) name zero h d = file_of-here entry entries name (h.named d)
file_of-first (entry ∷ entries) name (suc i) h d =
    file_of-past entry entries name (h.first 0 d (omega arith)) ∙ file_of-first entries name i (IsFirstOf-tail entry entries name i h) d

-- the same names stand at the same places after a write of an entry of the same name
file_of-set-other : (entries : List Entry) (i : ℕ) (new d : Entry) (other : List ℕ) → new.name ≡ (get_or entries i d).name → other ≢ new.name → file_of (set entries i new) other ≡ file_of entries other
file_of-set-other [] i new d other e h = refl
file_of-set-other (entry ∷ entries) zero new d other e h =
    file_of-past new entries other (λ q. h (sym q)) ∙ sym (file_of-past entry entries other (λ q. h (sym (e ∙ q))))
file_of-set-other (entry ∷ entries) (suc i) new d other e h =
    ap (λ rest. cond (bytes_eq entry.name other) (Some entry.bytes) rest) (file_of-set-other entries i new d other e h)

file_of-set-same : (entries : List Entry) (name : List ℕ) (i : ℕ) (new : Entry) → IsFirstOf entries name i → new.name ≡ name → file_of (set entries i new) name ≡ Some new.bytes
file_of-set-same [] name i new h e = absurd (let w = h.within in omega arith)
file_of-set-same (entry ∷ entries) name zero new h e = file_of-here new entries name e
file_of-set-same (entry ∷ entries) name (suc i) new h e =
    file_of-past entry (set entries i new) name (h.first 0 entry (omega arith)) ∙ file_of-set-same entries name i new (IsFirstOf-tail entry entries name i h) e

file_of-append : (entries : List Entry) (new : Entry) (other : List ℕ) → other ≢ new.name → file_of (entries ++ new ∷ []) other ≡ file_of entries other
file_of-append [] new other h = file_of-past new [] other (λ q. h (sym q))
file_of-append (entry ∷ entries) new other h =
    ap (λ rest. cond (bytes_eq entry.name other) (Some entry.bytes) rest) (file_of-append entries new other h)

cond-push : (here : Bool) (bytes : List ℕ) (rest grown wanted : Option (List ℕ)) → cond here (Some bytes) rest ≡ None → (rest ≡ None → grown ≡ wanted) → cond here (Some bytes) grown ≡ wanted
cond-push true bytes rest grown wanted h step = absurd (some_ne_none h)
cond-push false bytes rest grown wanted h step = step h

file_of-push : (entries : List Entry) (new : Entry) (name : List ℕ) → new.name ≡ name → file_of entries name ≡ None → file_of (entries ++ new ∷ []) name ≡ Some new.bytes
file_of-push [] new name e h = file_of-here new [] name e
file_of-push (entry ∷ entries) new name e h =
    cond-push (bytes_eq entry.name name) entry.bytes (file_of entries name) (file_of (entries ++ new ∷ []) name) (Some new.bytes) h (file_of-push entries new name e)

pub file_of-absent : (entries : List Entry) (name : List ℕ) → All (λ entry. entry.name ≢ name) entries → file_of entries name ≡ None
file_of-absent [] name h = refl
file_of-absent (entry ∷ entries) name h =
    file_of-past entry entries name (All-head (λ entry'. entry'.name ≢ name) entry entries h) ∙ file_of-absent entries name (All-tail (λ entry'. entry'.name ≢ name) entry entries h)

-- what a save does where the name had an entry
pub SavesTold-set : (entries now : List Entry) (name bytes : List ℕ) (i : ℕ) (new : Entry) → IsFirstOf entries name i → now ≡ set entries i new → new.name ≡ name → new.bytes ≡ bytes → SavesTold (file_of entries) (Some (file_of now)) name bytes (Ok tt)
SavesTold-set entries now name bytes i new h e same there = (
  file_of now,
  refl,
  record {
    there = rw e (file_of-set-same entries name i new h same ∙ ap Some there);
    others = λ other ne. rw e (file_of-set-other entries i new new other (same ∙ sym (h.named new)) (λ q. ne (q ∙ same)));
  },
)

-- what a save does where the name had no entry
pub SavesTold-push : (entries now : List Entry) (name bytes : List ℕ) (new : Entry) → All (λ entry. entry.name ≢ name) entries → now ≡ entries ++ new ∷ [] → new.name ≡ name → new.bytes ≡ bytes → SavesTold (file_of entries) (Some (file_of now)) name bytes (Ok tt)
SavesTold-push entries now name bytes new h e same there = (
  file_of now,
  refl,
  record {
    there = rw e (file_of-push entries new name same (file_of-absent entries name h) ∙ ap Some there);
    others = λ other ne. rw e (file_of-append entries new other (λ q. ne (q ∙ same)));
  },
)

pub ruleset files = (file_of-absent, file_of-first, SavesTold-set, SavesTold-push)
