-- An assembler refuses the items of a program for want of memory alone.
use Rattle.std.proofs.Common.{◌≡◌, ℕ, List, ◌∷◌, ◌++◌, [], map, refl, sym, subst, inl, inr}
use Rattle.std.proofs.Math.Logic.{∥∥₁_elim}
use Rattle.tb_semantics.specs.Graph.{IsApart, IsIn}
use Rattle.tb_semantics.proofs.ListLemmas.{in-right}
use Rattle.tb_ir.specs.AnfTree.{AnfTree}
use Rattle.tb_ir.specs.AnfRules.{KeepsRules}
use Rattle.tb_mac.specs.declared.code.Parts.{Parts}
use Rattle.tb_mac.specs.declared.item.Item.{Item}
use Rattle.tb_mac.specs.declared.refusal.AsmRefusal.{AsmRefusal}
use Rattle.tb_mac.specs.declared.refusal.AsmRefusal.TheVariants.{NoLabel, TwiceLabel, NoMemory}
use Rattle.tb_mac.specs.Assemble.{AreResolved, IsMissing, IsTwice}
use Rattle.tb_mac.specs.Refused.{IsRefused}
use Rattle.tb_codegen.specs.Fits.{Fits}
use Rattle.tb_codegen.specs.Generate.{noted_items}
use Rattle.tb_codegen.specs.Notes.{item_of}
use Rattle.tb_codegen.specs.PlainCode.{parts_of}

not-apart : (xs ys : List ℕ) (l : ℕ) → IsApart (xs ++ l ∷ ys) → IsIn l xs → ⊥
not-apart [] ys l a i = absurd i
not-apart (x ∷ xs) ys l a (inl e) = a.0 (in-right xs (l ∷ ys) x (inl (sym e)))
not-apart (x ∷ xs) ys l a (inr i) = not-apart xs ys l a.1 i

no-twice : (parts : Parts) (items : List Item) (l : ℕ) → AreResolved parts items → IsTwice items l → ⊥
no-twice parts items l r t = not-apart t.before t.behind l (subst IsApart t.stands r.apart) t.stood

no-missing : (parts : Parts) (items : List Item) (l : ℕ) → AreResolved parts items → IsMissing parts items l → ⊥
no-missing parts items l r m =
    m.nowhere (r.found l (subst (IsIn l) (sym m.named) (in-right m.before (l ∷ m.behind) l (inl refl))))

of-memory : (parts : Parts) (items : List Item) (r : AsmRefusal) → AreResolved parts items → IsRefused parts items r →
    (r ≡ NoMemory → ⊥) → ⊥
of-memory parts items (TwiceLabel l) h t n = no-twice parts items l h t
of-memory parts items (NoLabel l) h m n = no-missing parts items l h m.1
of-memory parts items NoMemory h u n = n refl

-- so do items and parts that are those
pub never-labels : (p : AnfTree) →
    ((q : AnfTree) → KeepsRules q → Fits q → AreResolved (parts_of q) (map item_of (noted_items q))) →
    ∥ KeepsRules p ∥₁ → Fits p →
    (parts : Parts) (items : List Item) → parts ≡ parts_of p → items ≡ map item_of (noted_items p) →
    (r : AsmRefusal) → IsRefused parts items r → (r ≡ NoMemory → ⊥) → ⊥
never-labels p resolved rules fits parts items same_parts same_items r refused n =
    ∥∥₁_elim rules (λ a b. absurd a)
    (λ k. of-memory parts items r (rw (same_parts, same_items) (resolved p k fits)) refused n)
