-- Rows of items with notes: each instruction is what its note says to the note behind it, and its targets are labels
-- of these items.
use Rattle.std.proofs.Common.{ℕ, List, [], ◌∷◌, ◌++◌, Option, Some, None, sym, subst, append_assoc}
use Rattle.tb_prim.specs.declared.place.Place.{Place}
use Rattle.tb_semantics.specs.Graph.{IsIn}
use Rattle.tb_ir.specs.AnfTree.{AnfTree}
use Rattle.tb_mac.specs.declared.code.Instr.{Instr}
use Rattle.tb_codegen.specs.Notes.{Note, Noted, Mark, Does}
use Rattle.tb_codegen.proofs.Ok.{Ok}

-- the note at a label among these items
pub data Target (is : List Noted) (l : ℕ) (n : Note) : Type 0 where
  target : IsIn (Mark l n) is → Target is l n

module _ (p : AnfTree) (all : List Noted) where
  -- a row of items from a note, or from nowhere, to a note, with the items after it
  pub data Chain (rest : List Noted) : Option Note → List Noted → Option Note → Type 0 where
    c_end : {o : Option Note} → Chain rest o [] o
    c_does : {i : Instr} {q : Option Place} {n : Note} {o : Option Note} {is : List Noted} {e : Option Note} →
        Ok p (Target all) (Target (is ++ rest)) i q n o → Chain rest o is e → Chain rest (Some n) (Does i n q ∷ is) e
    c_mark : {l : ℕ} {n : Note} {is : List Noted} {e : Option Note} → Chain rest (Some n) is e →
        Chain rest (Some n) (Mark l n ∷ is) e
    c_dead : {l : ℕ} {n : Note} {is : List Noted} {e : Option Note} → Chain rest (Some n) is e →
        Chain rest None (Mark l n ∷ is) e

  -- rows that follow one another
  pub chain-on : (rest js : List Noted) (a b c : Option Note) (is : List Noted) → Chain (js ++ rest) a is b →
      Chain rest b js c → Chain rest a (is ++ js) c
  chain-on rest js a b c is c_end k = k
  chain-on rest js a b c is (c_does {i = i} {q = q} {n = n} {o = o} {is = is2} ok h) k =
      c_does (subst (λ zs. Ok p (Target all) (Target zs) i q n o) (sym (append_assoc is2 js rest)) ok) (chain-on rest js _ b c _ h k)
  chain-on rest js a b c is (c_mark h) k = c_mark (chain-on rest js _ b c _ h k)
  chain-on rest js a b c is (c_dead h) k = c_dead (chain-on rest js _ b c _ h k)

  -- one instruction
  pub one : (rest : List Noted) (i : Instr) (q : Option Place) (n : Note) (o : Option Note) →
      Ok p (Target all) (Target rest) i q n o → Chain rest (Some n) (Does i n q ∷ []) o
  one rest i q n o ok = c_does ok c_end
