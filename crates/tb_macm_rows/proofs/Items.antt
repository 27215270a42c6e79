-- Items that keep all conditions of `assemble`.
use Rattle.std.proofs.Common.{◌≡◌, ℕ, ◌<◌, Bool, true, false, cond, List, [], ◌∷◌, refl, subst, lit<, lit≤, arith}
use Rattle.std.specs.Prelude.{Some, None, slice_get}
use Rattle.std.proofs.lemmas.List.Elements.{All-cons, All-nil}
use Rattle.tb_mac.specs.declared.code.Instr.TheVariants as instr
use Rattle.tb_mac.specs.declared.code.LambdaEntry.{LambdaEntry}
use Rattle.tb_mac.specs.declared.code.LiveMap.{LiveMap}
use Rattle.tb_mac.specs.declared.code.Parts.{Parts}
use Rattle.tb_mac.specs.declared.item.Item.{Item}
use Rattle.tb_mac.specs.declared.item.Item.TheVariants.{Label, Ins}
use Rattle.tb_mac.specs.Assemble.{EntryStands, ItemOk, ItemsOk}
use Rattle.tb_mac.specs.Rules.{MapOk, PartsOk}

abbrev pub jump_and_end : LiveMap → ℕ → ℕ → ℕ → List Item
jump_and_end m a b t = Label a ∷ Ins (instr.Jump t) m None ∷ Label b ∷ Ins instr.End m None ∷ []

-- a label that stands before one of two instructions stands before instruction 0 or 1
before_two : (p q : Bool) (at : ℕ) → cond p (Some 0) (cond q (Some 1) None) ≡ Some at → at < 2
before_two true q at e = let h : 0 ≡ at = cc in omega (arith, h)
before_two false true at e = let h : 1 ≡ at = cc in omega (arith, h)
before_two false false at e = cc

no_entry : (items : List Item) (ls : List LambdaEntry) → ls ≡ [] → (n : ℕ) (l : LambdaEntry) → slice_get ls n ≡ Some l → EntryStands items n l
no_entry items ls e n l s = let h : None ≡ Some l = subst (λ (v : List LambdaEntry). slice_get v n ≡ Some l) e s in cc

pub items_ok : (parts : Parts) (m : LiveMap) (a b t : ℕ) → PartsOk parts → parts.lambdas ≡ [] → MapOk m → ItemsOk parts (jump_and_end m a b t)
items_ok parts m a b t p e h =
    let last : List Item = Ins instr.End m None ∷ [] in
    let second : List Item = Label b ∷ last in
    let behind : List Item = Ins (instr.Jump t) m None ∷ second in record {
      parts_ok = p;
      items_ok = All-cons (ItemOk parts) (Label a) behind tt
          (All-cons (ItemOk parts) (Ins (instr.Jump t) m None) second (lit< tt, h, refl)
          (All-cons (ItemOk parts) (Label b) last tt
          (All-cons (ItemOk parts) (Ins instr.End m None) [] (tt, h, refl) (All-nil (ItemOk parts)))));
      some = lit≤ tt;
      few = lit< tt;
      labels_before = λ l at s. before_two _ _ at s;
      entries = no_entry (jump_and_end m a b t) parts.lambdas e;
    }
