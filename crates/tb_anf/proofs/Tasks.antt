-- The lambda expressions that stand in an expression, in written order, with how many variables are in scope there.
use Rattle.std.proofs.Common.{◌≡◌, refl, sym, ap, ◌∙◌, ℕ, ◌+◌, Bool, List, [], ◌∷◌, ◌++◌, length, append_assoc, append-nil}
use Rattle.tb_core.specs.Width.{widths_of_lambdas}
use Rattle.tb_core.proofs.Members.{append-same}
use Rattle.tb_ir.specs.Tree.{Tree, Node, Form, Quote, Local, Global, Lambda, If, NewCell, CellGet, CellSet, SetGlobal, DefGlobal, Let, Letrec, Seq, Call, Direct, PrimUse, Apply, Trees, none, more}
use Rattle.tb_ir.specs.Rules.{of_nodes, standing_at, nodes_of}
use Rattle.tb_ir.specs.Rules as K
use Rattle.tb_ir.specs.Width.{plain_count, widths, widths_form, widths_all}
use Rattle.tb_anf.proofs.Apart.{of_nodes-append}

-- a lambda expression by its number, and how many variables are in scope
pub record Task : Type 0 where
  pub number : ℕ
  pub scope : ℕ

abbrev pub tasks_of : ℕ → List ℕ → List Task
tasks_of s [] = []
tasks_of s (l ∷ ls) = record { number = l; scope = s } ∷ tasks_of s ls

abbrev mutual
  pub tasks : ℕ → Tree → List Task
  tasks s (Node p n f) = tasks_form s f

  pub tasks_form : ℕ → Form → List Task
  tasks_form s (Quote c) = []
  tasks_form s (Local x) = []
  tasks_form s (Global g) = []
  tasks_form s (Lambda l) = record { number = l; scope = s } ∷ []
  tasks_form s (If a b c) = tasks s a ++ (tasks s b ++ tasks s c)
  tasks_form s (NewCell e) = tasks s e
  tasks_form s (CellGet e) = tasks s e
  tasks_form s (CellSet c e) = tasks s c ++ tasks s e
  tasks_form s (SetGlobal g e) = tasks s e
  tasks_form s (DefGlobal g e) = tasks s e
  tasks_form s (Let xs es e) = tasks_all s es ++ tasks (s + plain_count es) e
  tasks_form s (Letrec xs ls e) = tasks_of (s + length xs) ls ++ tasks (s + length xs) e
  tasks_form s (Seq es) = tasks_all s es
  tasks_form s (Call f es) = tasks s f ++ tasks_all s es
  tasks_form s (Direct l es) = tasks_all s es
  tasks_form s (PrimUse q es) = tasks_all s es
  tasks_form s (Apply f l) = tasks s f ++ tasks s l

  pub tasks_all : ℕ → Trees → List Task
  tasks_all s none = []
  tasks_all s (more e es) = tasks s e ++ tasks_all s es

-- what each of some lambda expressions gives, one after another
abbrev pub gathered : (ℕ → ℕ → List ℕ) → List Task → List ℕ
gathered f [] = []
gathered f (t ∷ ts) = f t.number t.scope ++ gathered f ts

pub gathered-append : (f : ℕ → ℕ → List ℕ) (ts us : List Task) → gathered f (ts ++ us) ≡ gathered f ts ++ gathered f us
gathered-append f [] us = refl
gathered-append f (t ∷ ts) us =
    ap (λ z. f t.number t.scope ++ z) (gathered-append f ts us)
    ∙ sym (append_assoc (f t.number t.scope) (gathered f ts) (gathered f us))

-- the widths are those of the tasks
module _ (lined : ℕ → Bool) (own : ℕ → ℕ) (f : ℕ → ℕ → List ℕ) where
  two : (ts us : List Task) (xs ys : List ℕ) → xs ≡ gathered f ts → ys ≡ gathered f us →
      xs ++ ys ≡ gathered f (ts ++ us)
  two ts us xs ys a b = append-same xs ys (gathered f ts) (gathered f us) a b ∙ sym (gathered-append f ts us)

  of_group : (s : ℕ) (ls : List ℕ) → widths_of_lambdas f s ls ≡ gathered f (tasks_of s ls)
  of_group s [] = refl
  of_group s (l ∷ ls) = ap (λ z. f l s ++ z) (of_group s ls)

  mutual
    pub widths-tasks : (s : ℕ) (e : Tree) → widths lined own f s e ≡ gathered f (tasks s e)
    widths-tasks s (Node p n k) = form_tasks s k

    form_tasks : (s : ℕ) (k : Form) → widths_form lined own f s k ≡ gathered f (tasks_form s k)
    form_tasks s (Quote c) = refl
    form_tasks s (Local x) = refl
    form_tasks s (Global g) = refl
    form_tasks s (Lambda l) = sym (append-nil (f l s))
    form_tasks s (If a b c) =
        two (tasks s a) _ _ _ (widths-tasks s a) (two (tasks s b) _ _ _ (widths-tasks s b) (widths-tasks s c))
    form_tasks s (NewCell e) = widths-tasks s e
    form_tasks s (CellGet e) = widths-tasks s e
    form_tasks s (CellSet c e) = two (tasks s c) _ _ _ (widths-tasks s c) (widths-tasks s e)
    form_tasks s (SetGlobal g e) = widths-tasks s e
    form_tasks s (DefGlobal g e) = widths-tasks s e
    form_tasks s (Let xs es e) =
        two (tasks_all s es) _ _ _ (all-tasks s es) (widths-tasks (s + plain_count es) e)
    form_tasks s (Letrec xs ls e) =
        two (tasks_of (s + length xs) ls) _ _ _ (of_group (s + length xs) ls) (widths-tasks (s + length xs) e)
    form_tasks s (Seq es) = all-tasks s es
    form_tasks s (Call a es) = two (tasks s a) _ _ _ (widths-tasks s a) (all-tasks s es)
    form_tasks s (Direct l es) = all-tasks s es
    form_tasks s (PrimUse q es) = all-tasks s es
    form_tasks s (Apply a b) = two (tasks s a) _ _ _ (widths-tasks s a) (widths-tasks s b)

    pub all-tasks : (s : ℕ) (es : Trees) → widths_all lined own f s es ≡ gathered f (tasks_all s es)
    all-tasks s none = refl
    all-tasks s (more e es) = two (tasks s e) _ _ _ (widths-tasks s e) (all-tasks s es)

-- their numbers are those of the lambda expressions that stand in the expression
abbrev pub numbers_of : List Task → List ℕ
numbers_of [] = []
numbers_of (t ∷ ts) = t.number ∷ numbers_of ts

pub numbers-append : (ts us : List Task) → numbers_of (ts ++ us) ≡ numbers_of ts ++ numbers_of us
numbers-append [] us = refl
numbers-append (t ∷ ts) us = ap (λ z. t.number ∷ z) (numbers-append ts us)

abbrev pub stand_in : Tree → List ℕ
stand_in e = of_nodes standing_at (K.nodes e)

abbrev pub stand_in_all : Trees → List ℕ
stand_in_all es = of_nodes standing_at (nodes_of es)

both_stand : (ts us : List Task) (ds es : List Tree) → numbers_of ts ≡ of_nodes standing_at ds →
    numbers_of us ≡ of_nodes standing_at es → numbers_of (ts ++ us) ≡ of_nodes standing_at (ds ++ es)
both_stand ts us ds es a b =
    numbers-append ts us ∙ append-same (numbers_of ts) (numbers_of us) _ _ a b ∙ sym (of_nodes-append standing_at ds es)

group_numbers : (s : ℕ) (ls : List ℕ) → numbers_of (tasks_of s ls) ≡ ls
group_numbers s [] = refl
group_numbers s (l ∷ ls) = ap (λ z. l ∷ z) (group_numbers s ls)

mutual
  pub tasks-stand : (s : ℕ) (e : Tree) → numbers_of (tasks s e) ≡ stand_in e
  tasks-stand s (Node p n k) = form_stand s k

  form_stand : (s : ℕ) (k : Form) → numbers_of (tasks_form s k) ≡ standing_at k ++ of_nodes standing_at (K.nodes_in k)
  form_stand s (Quote c) = refl
  form_stand s (Local x) = refl
  form_stand s (Global g) = refl
  form_stand s (Lambda l) = refl
  form_stand s (If a b c) =
      both_stand (tasks s a) _ (K.nodes a) _ (tasks-stand s a)
      (both_stand (tasks s b) _ (K.nodes b) _ (tasks-stand s b) (tasks-stand s c))
  form_stand s (NewCell e) = tasks-stand s e
  form_stand s (CellGet e) = tasks-stand s e
  form_stand s (CellSet c e) = both_stand (tasks s c) _ (K.nodes c) _ (tasks-stand s c) (tasks-stand s e)
  form_stand s (SetGlobal g e) = tasks-stand s e
  form_stand s (DefGlobal g e) = tasks-stand s e
  form_stand s (Let xs es e) =
      both_stand (tasks_all s es) _ (nodes_of es) _ (all-stand s es) (tasks-stand (s + plain_count es) e)
  form_stand s (Letrec xs ls e) =
      numbers-append (tasks_of (s + length xs) ls) (tasks (s + length xs) e)
      ∙ append-same _ _ _ _ (group_numbers (s + length xs) ls) (tasks-stand (s + length xs) e)
  form_stand s (Seq es) = all-stand s es
  form_stand s (Call a es) = both_stand (tasks s a) _ (K.nodes a) _ (tasks-stand s a) (all-stand s es)
  form_stand s (Direct l es) = all-stand s es
  form_stand s (PrimUse q es) = all-stand s es
  form_stand s (Apply a b) = both_stand (tasks s a) _ (K.nodes a) _ (tasks-stand s a) (tasks-stand s b)

  pub all-stand : (s : ℕ) (es : Trees) → numbers_of (tasks_all s es) ≡ stand_in_all es
  all-stand s none = refl
  all-stand s (more e es) = both_stand (tasks s e) _ (K.nodes e) _ (tasks-stand s e) (all-stand s es)
