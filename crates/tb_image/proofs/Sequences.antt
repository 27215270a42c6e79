-- Formats one behind the other.
use Rattle.std.proofs.Common.{◌≡◌, sym, ap, ◌∙◌, subst, refl, ℕ, ◌≤◌, arith, List, [], ◌++◌, append_assoc, length, take, drop}
use Rattle.std.proofs.lemmas.List.{drop-append-le, length-append, length-take-le, take-append-drop, take-append-le}
use Rattle.std.proofs.Math.Seq.{drop-append_seam, take-append_seam}
use Rattle.tb_image.specs.Format.{Format, done, field, Spells, then}
use Rattle.tb_image.specs.FormatLaws.{Parted}

seam : (n : ℕ) (bytes xs : List ℕ) → n ≤ length bytes → take n (take n bytes ++ xs) ≡ take n bytes
seam n bytes xs there = subst (λ k. take k (take n bytes ++ xs) ≡ take n bytes) (length-take-le n bytes there) (take-append_seam (take n bytes) xs)

behind_seam : (n : ℕ) (bytes xs : List ℕ) → n ≤ length bytes → drop n (take n bytes ++ xs) ≡ xs
behind_seam n bytes xs there = subst (λ k. drop k (take n bytes ++ xs) ≡ xs) (length-take-le n bytes there) (drop-append_seam (take n bytes) xs)

long : (n : ℕ) (bytes xs : List ℕ) → n ≤ length bytes → n ≤ length (bytes ++ xs)
long n bytes xs there = rw (length-append bytes xs) (omega (arith, there))

pub split : {A B : Type 0} (f : Format A) (next : A → Format B) (bytes : List ℕ) (b : B) → Spells (then f next) bytes b → Parted f next bytes b
split (done a) next bytes b s = record { first = []; rest = bytes; value = a; whole = refl; begins = (refl, refl); ends = s }
split (field n rule after) next bytes b s =
    let t = take n bytes in
    let there = s.0.0 in
    let r = split (after t) next (drop n bytes) b s.1 in
    record {
      first = t ++ r.first;
      rest = r.rest;
      value = r.value;
      whole = sym (take-append-drop n bytes) ∙ ap (λ v. t ++ v) r.whole ∙ sym (append_assoc t r.first r.rest);
      begins = (
        (long n t r.first (subst (λ k. n ≤ k) (sym (length-take-le n bytes there)) (omega arith)), ap rule (seam n bytes r.first there) ∙ s.0.1),
        subst (λ v. Spells (after v) (drop n (t ++ r.first)) r.value) (sym (seam n bytes r.first there))
            (subst (λ v. Spells (after t) v r.value) (sym (behind_seam n bytes r.first there)) r.begins),
      );
      ends = r.ends;
    }

pub join : {A B : Type 0} (f : Format A) (next : A → Format B) (first rest : List ℕ) (a : A) (b : B) →
    Spells f first a → Spells (next a) rest b → Spells (then f next) (first ++ rest) b
join (done c) next first rest a b s t = subst (λ v. Spells (next v) (first ++ rest) b) (sym s.1) (subst (λ v. Spells (next a) (v ++ rest) b) (sym s.0) t)
join (field n rule after) next first rest a b s t =
    let there = s.0.0 in
    let same = take-append-le n first rest there in (
      (long n first rest there, ap rule same ∙ s.0.1),
      subst (λ v. Spells (then (after v) next) (drop n (first ++ rest)) b) (sym same)
          (subst (λ v. Spells (then (after (take n first)) next) v b) (sym (drop-append-le n first rest there)) (join (after (take n first)) next (drop n first) rest a b s.1 t)),
    )

pub joined : {A B : Type 0} (f : Format A) (next : A → Format B) (bytes : List ℕ) (b : B) → Parted f next bytes b → Spells (then f next) bytes b
joined f next bytes b p = subst (λ v. Spells (then f next) v b) (sym p.whole) (join f next p.first p.rest p.value b p.begins p.ends)
