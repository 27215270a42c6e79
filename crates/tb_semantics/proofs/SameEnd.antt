-- Two machines that come to an end with the same events keep one another: the events of a run at any moment
-- are a front of those at its end, and a machine that appends them one by one comes to each front.
use Rattle.std.proofs.Common.{◌≡◌, ℕ, zero, suc, ◌+◌, ◌-◌, ◌≤◌, ◌⊎◌, inl, inr, ⊎_elim, List, [], ◌∷◌, ◌++◌, length, refl, sym, ap, ◌∙◌, subst, arith, append-nil, length-append}
use Rattle.std.proofs.lemmas.Bool.{cases_lt}
use Rattle.tb_semantics.specs.Runs.{Machine, run, after, IsPrefix, Appends, EmitsInOrder, KeepsEvents, Ends}
use Rattle.tb_semantics.proofs.RunLaws.{run-add, prefix_refl, prefix-after}

-- a state that steps to itself stays
pub run-still : {S : Type 0} (step : S → S) (n : ℕ) (s : S) → step s ≡ s → run step n s ≡ s
run-still step zero s e = refl
run-still step (suc n) s e = ap (run step n) e ∙ run-still step n s e

-- one step more
pub after-suc : {E S : Type 0} (m : Machine E S) (n : ℕ) → after m (suc n) ≡ m.step (after m n)
after-suc m n = let e : suc n ≡ n + 1 = omega arith in ap (λ k. after m k) e ∙ run-add m.step n 1 m.start

-- a machine that has ended stays as it is
pub after-end : {E S : Type 0} (m : Machine E S) (n k : ℕ) (es : List E) → Ends m n es → n ≤ k → after m k ≡ after m n
after-end m n k es h le =
    let e : n + (k - n) ≡ k = omega arith in
    ap (λ j. after m j) (sym e) ∙ run-add m.step n (k - n) m.start ∙ run-still m.step (k - n) (after m n) h.still

-- the shorter of two fronts of one list is a front of the longer
pub prefix_split : {E : Type 0} (p rest old added : List E) → p ++ rest ≡ old ++ added → length p ≤ length old →
    IsPrefix p old
prefix_split [] rest old added h le = record { rest = old; whole = refl }
prefix_split (x ∷ p) rest [] added h le = absurd (omega arith)
prefix_split (x ∷ p) rest (y ∷ old) added h le =
    let tails : p ++ rest ≡ old ++ added = cc in
    let heads : x ≡ y = cc in
    let r = prefix_split p rest old added tails (omega arith) in
    record { rest = r.rest; whole = ap (λ v. v ∷ (p ++ r.rest)) heads ∙ ap (λ zs. y ∷ zs) r.whole }

-- a front of a list with at most one more element is a front of the list, or all of it
front_or_all : {E : Type 0} (p old now : List E) → Appends old now → IsPrefix p now → IsPrefix p old ⊎ (p ≡ now)
front_or_all p old now a q = front_or_rest p q.rest old now a q.whole
  where
    front_or_rest : {E : Type 0} (p rest old now : List E) → Appends old now → p ++ rest ≡ now →
        IsPrefix p old ⊎ (p ≡ now)
    front_or_rest p [] old now a e = inr (sym (append-nil p) ∙ e)
    front_or_rest p (r ∷ rs) old now a e =
        let lengths = length-append p (r ∷ rs) in
        let others = length-append old a.added in
        let same = ap length (e ∙ a.appended) in
        let few = a.few in
        inl (prefix_split p (r ∷ rs) old a.added (e ∙ a.appended) (omega arith))

-- the events of a run are a front of those at its end
pub prefix-end : {E S : Type 0} (m : Machine E S) → EmitsInOrder m → (n k : ℕ) (es : List E) → Ends m n es →
    (k ≤ n) ⊎ (n ≤ k) → IsPrefix (m.events (after m k)) es
prefix-end m o n k es h (inl le) =
    let e : k + (n - k) ≡ n = omega arith in
    subst (λ v. IsPrefix (m.events (after m k)) v) (ap (λ j. m.events (after m j)) e ∙ h.emitted) (prefix-after m o k (n - k))
prefix-end m o n k es h (inr le) =
    subst (λ s. IsPrefix (m.events s) es) (sym (after-end m n k es h le))
    (subst (λ v. IsPrefix v es) (sym h.emitted) (prefix_refl es))

-- a machine that starts without events comes to each front of its events
pub comes_to_prefix : {E S : Type 0} (m : Machine E S) → EmitsInOrder m → m.events m.start ≡ [] →
    (n : ℕ) (p : List E) → IsPrefix p (m.events (after m n)) → (k : ℕ) × (m.events (after m k) ≡ p)
comes_to_prefix m o none zero p q = (0, only_nil p q.rest (m.events m.start) none q.whole)
  where
    only_nil : {E : Type 0} (p rest es : List E) → es ≡ [] → p ++ rest ≡ es → es ≡ p
    only_nil [] rest es e f = e
    only_nil (x ∷ p) rest es e f = absurd (let g : (x ∷ p) ++ rest ≡ [] = f ∙ e in cc)
comes_to_prefix m o none (suc n) p q =
    ⊎_elim
    (λ front. comes_to_prefix m o none n p front)
    (λ all. (suc n, sym all))
    (front_or_all p (m.events (after m n)) (m.events (after m (suc n)))
    (subst (λ s. Appends (m.events (after m n)) (m.events s)) (sym (after-suc m n)) (o (after m n))) q)

pub prefix-length : {E : Type 0} (p es : List E) → IsPrefix p es → length p ≤ length es
prefix-length {E} p es q =
    let long : length (p ++ q.rest) ≡ length p + length q.rest = length-append p q.rest in
    let same : length (p ++ q.rest) ≡ length es = ap length q.whole in
    omega arith

pub either_le : (k n : ℕ) → (k ≤ n) ⊎ (n ≤ k)
either_le k n = ⊎_elim (λ lt. inl (omega arith)) (λ le. inr le) (cases_lt k n)

-- machines with the same events at their ends keep one another
pub same_end-keeps : {E A B : Type 0} (a : Machine E A) (b : Machine E B) → EmitsInOrder a → EmitsInOrder b →
    b.events b.start ≡ [] → (n m : ℕ) (es : List E) → Ends a n es → Ends b m es → KeepsEvents a b
same_end-keeps a b oa ob none n m es ha hb = record {
  events = λ k.
      let p = prefix-end a oa n k es ha (either_le k n) in
      let r = comes_to_prefix b ob none m (a.events (after a k)) (subst (λ v. IsPrefix (a.events (after a k)) v) (sym hb.emitted) p) in
      (r.0, sym r.1);
  comes = λ k. (
    n,
    subst (λ v. length (b.events (after b k)) ≤ length v) (sym ha.emitted)
        (prefix-length (b.events (after b k)) es (prefix-end b ob m k es hb (either_le k m))),
  );
}
