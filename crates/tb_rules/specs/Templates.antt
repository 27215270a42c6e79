-- Templates: each variable stands under as many ellipses as in its pattern, and an ellipsis follows an element that
-- has a variable.
use Rattle.std.specs.Prelude.{ℕ, ◌+◌, ◌==◌, ◌&&◌, ◌||◌, Bool, true, false, not, cond, List, [], ◌∷◌}
use Rattle.tb_sexp.specs.Tree.{Tree, At, Shape, Nil, Truth, Fixnum, Character, String, Name, Proper, Dotted, Vector, Trees, none, more}
use Rattle.tb_rules.specs.Patterns.{under}
use Rattle.tb_rules.specs.Names.{is_dots, is_ellipsis, begin_with_ellipsis, Variable, is_named, has_variable}

-- a name that is a variable stands under as many ellipses as in its pattern
abbrev pub stands_under : List Variable → ℕ → List ℕ → ℕ → Bool
stands_under [] n s a = true
stands_under (v ∷ vs) n s a = cond (is_named s a v) (v.depth == n) (stands_under vs n s a)

-- whether a variable stands in a template
abbrev mutual
  pub uses_variable : List Variable → Tree → Bool
  uses_variable vs (At p s) = shape_uses vs s

  pub shape_uses : List Variable → Shape → Bool
  shape_uses vs Nil = false
  shape_uses vs (Truth b) = false
  shape_uses vs (Fixnum z) = false
  shape_uses vs (Character c) = false
  shape_uses vs (String s) = false
  shape_uses vs (Name s a) = has_variable vs s a
  shape_uses vs (Proper ds) = some_use vs ds
  shape_uses vs (Dotted ds d) = some_use vs ds || uses_variable vs d
  shape_uses vs (Vector ds) = false

  pub some_use : List Variable → Trees → Bool
  some_use vs none = false
  some_use vs (more d ds) = uses_variable vs d || some_use vs ds

-- a template under `n` ellipses; in a list, `behind` says whether an element stands in front that no ellipsis follows
abbrev mutual
  pub is_template : List Variable → ℕ → Tree → Bool
  is_template vs n (At p s) = is_template_shape vs n s

  pub is_template_shape : List Variable → ℕ → Shape → Bool
  is_template_shape vs n Nil = true
  is_template_shape vs n (Truth b) = true
  is_template_shape vs n (Fixnum z) = true
  is_template_shape vs n (Character c) = true
  is_template_shape vs n (String s) = true
  is_template_shape vs n (Name s a) = not (is_dots s) && stands_under vs n s a
  is_template_shape vs n (Proper ds) = are_templates vs n false ds
  is_template_shape vs n (Dotted ds d) = are_templates vs n false ds && is_template vs n d
  is_template_shape vs n (Vector ds) = true

  pub are_templates : List Variable → ℕ → Bool → Trees → Bool
  are_templates vs n behind none = true
  are_templates vs n behind (more d ds) =
      cond (is_ellipsis d) (behind && are_templates vs n false ds)
      ((not (begin_with_ellipsis ds) || uses_variable vs d) && (is_template vs (under n ds) d && are_templates vs n true ds))
