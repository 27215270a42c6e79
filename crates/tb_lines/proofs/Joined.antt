-- Texts that are put one after another.
use Rattle.std.proofs.Common.{◌≡◌, ℕ, zero, suc, ◌+◌, ◌<◌, List, [], ◌∷◌, ◌++◌, length, map, take, get_or, Option, Some, None, refl, sym, ap, ◌∙◌, subst, append_assoc, append-nil, length-append, add-one, arith}
use Rattle.std.specs.Prelude.{IfSome}
use Rattle.std.proofs.lemmas.List.{take-append-le}
use Rattle.std.proofs.Math.Seq.{take-append-add}
use Rattle.tb_base.specs.Outside.{PutsSome}
use Rattle.tb_lines.specs.Lines.{joined}

-- all texts are those before one, that one, and the rest
pub record Split (all front own : List ℕ) : Type 0 where
  pub rest : List ℕ
  pub whole : all ≡ front ++ (own ++ rest)

pub joined-split : {X : Type 0} (f : X → List ℕ) (xs : List X) (i : ℕ) (d : X) → i < length xs →
    Split (joined (map f xs)) (joined (map f (take i xs))) (f (get_or xs i d))
joined-split f [] i d h = absurd (omega arith)
joined-split f (x ∷ xs) zero d h = record { rest = joined (map f xs); whole = refl }
joined-split f (x ∷ xs) (suc i) d h =
    let r = joined-split f xs i d (omega arith) in
    record { rest = r.rest; whole = ap (λ ys. f x ++ ys) r.whole ∙ sym (append_assoc (f x) (joined (map f (take i xs))) (f (get_or xs i d) ++ r.rest)) }

joined-take_suc : {X : Type 0} (f : X → List ℕ) (xs : List X) (i : ℕ) (d : X) → i < length xs →
    joined (map f (take (suc i) xs)) ≡ joined (map f (take i xs)) ++ f (get_or xs i d)
joined-take_suc f [] i d h = absurd (omega arith)
joined-take_suc f (x ∷ xs) zero d h = append-nil (f x)
joined-take_suc f (x ∷ xs) (suc i) d h =
    ap (λ ys. f x ++ ys) (joined-take_suc f xs i d (omega arith)) ∙ sym (append_assoc (f x) (joined (map f (take i xs))) (f (get_or xs i d)))

pub joined-take_more : {X : Type 0} (f : X → List ℕ) (xs : List X) (i : ℕ) (d : X) → i < length xs →
    joined (map f (take (i + 1) xs)) ≡ joined (map f (take i xs)) ++ f (get_or xs i d)
joined-take_more f xs i d h = ap (λ n. joined (map f (take n xs))) (add-one i) ∙ joined-take_suc f xs i d h

-- one text more was put
pub put_more : (first mid last : Option (List ℕ)) (front own all : List ℕ) → all ≡ front ++ own →
    IfSome first (λ held. mid ≡ Some (held ++ front)) → IfSome mid (λ held. last ≡ Some (held ++ own)) →
    IfSome first (λ held. last ≡ Some (held ++ all))
put_more None mid last front own all e p q = tt
put_more (Some held) mid last front own all e p q =
    subst (λ m. IfSome m (λ h. last ≡ Some (h ++ own))) p q ∙ ap Some (append_assoc held front own ∙ ap (λ ys. held ++ ys) (sym e))

-- a front of the next text was put
some_put : (held : List ℕ) (last : Option (List ℕ)) (front own all : List ℕ) (n : ℕ) → Split all front own →
    PutsSome (held ++ front) last own n → PutsSome held last all (length front + n)
some_put held last front own all n s p =
    let fewer : n < length own = p.fewer in
    let size : length all ≡ length front + (length own + length s.rest) =
    ap length s.whole ∙ length-append front (own ++ s.rest) ∙ ap (λ k. length front + k) (length-append own s.rest) in
    let same : take (length front + n) all ≡ front ++ take n own =
    ap (take (length front + n)) s.whole ∙ take-append-add front (own ++ s.rest) n ∙ ap (λ ys. front ++ ys) (take-append-le n own s.rest (omega arith)) in
    record {
      fewer = omega arith;
      front = p.front ∙ ap Some (append_assoc held front (take n own) ∙ ap (λ ys. held ++ ys) (sym same));
    }

pub put_some : (first mid last : Option (List ℕ)) (front own all : List ℕ) → Split all front own →
    IfSome first (λ held. mid ≡ Some (held ++ front)) → IfSome mid (λ held. (n : ℕ) × PutsSome held last own n) →
    IfSome first (λ held. (n : ℕ) × PutsSome held last all n)
put_some None mid last front own all s p q = tt
put_some (Some held) mid last front own all s p q =
    let r = subst (λ m. IfSome m (λ h. (n : ℕ) × PutsSome h last own n)) p q in
    (length front + r.0, some_put held last front own all r.0 s r.1)
