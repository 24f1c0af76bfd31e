-- The variables of @skip and @include in a document that breaks no rule: each is right below an argument, the only one, of its directive, by rule 9, and
-- each operation that reaches its selection defines it, by rule 10.
use mathlib.Core.Path.{◌≡◌, refl, sym, ap, ◌∙◌, subst}
use mathlib.Core.Logic.{◌⊎◌, inl, inr}
use mathlib.Core.Bool.{Bool, true, false, true≢false, not, ◌&&◌, ◌||◌, cond}
use mathlib.Core.Option.{Option, none, some}
use mathlib.Core.List.{List, [], ◌∷◌}
use Prim.Native.Nat.{ℕ, suc}
use native.Mathlib.Nat.{zero-add}
use lib.Dec.{T, eqb, leb, ltb, eqb→eq}
use borrow.Author.Tests.{ltb-true}
use Rattle.paper.specs.Numbers.{kind_operation, kind_fragment, kind_argument, kind_directive, kind_variable, kind_boolean, kind_object, extra_true}
use Rattle.paper.specs.Tokens.{same}
use Rattle.paper.specs.Rows.{Row}
use Rattle.paper.proofs.Bools.{and_l, and_r, and_i, or_cases, eq→t as holds}
use Rattle.paper_table.specs.Lists.{bytes, any_of, find}
use Rattle.paper_table.specs.Types.{Table, built_in_directives}
use Rattle.paper_table.proofs.ListsLaws.{find_some}
use Rattle.paper_query.specs.Constructs.{Doc, count, no_row, row_of, parent_of, name_of, spelt, is, is_selection, is_value, below, called}
use Rattle.paper_query.specs.Reaching.{is_definition, Within, deeper, Reaches, here, through}
use Rattle.paper_query.specs.Rule9Directive.{repeated_there, rows_below, is_if, only_ifs, directive_right, directive_wrong}
use Rattle.paper_query.specs.Rule10Undefined.{defines}
use Rattle.paper_query.specs.QueryRules.{Judged, directive, undefined}
use Rattle.paper_query.specs.declared.QueryAnswer.TheVariants.{Fits}
use Rattle.paper_plan.specs.Collecting.{Cond, absent, literal, variable}
use Rattle.paper_plan.specs.Selecting.{Name, variable_number, directive_on, argument_below, cond_from, if_of}
use Rattle.query_conditions.proofs.BelowRows.{Below}
use Rattle.query_conditions.proofs.RowLists.{right, any_some, first_passes, first_number}
use Rattle.query_conditions.proofs.Conditions.{not_broken}

absent≢variable : {v : ℕ} → absent ≡ variable v → ⊥
absent≢variable e = true≢false (ap told e)
  where
    told : Cond → Bool
    told absent = true
    told (literal b) = true
    told (variable v) = false

literal≢variable : {b : Bool} {v : ℕ} → literal b ≡ variable v → ⊥
literal≢variable e = true≢false (ap told e)
  where
    told : Cond → Bool
    told absent = true
    told (literal b) = true
    told (variable v) = false

variable_one : {n v : ℕ} → variable n ≡ variable v → n ≡ v
variable_one e = cc

module _ (t : Table) (d : Doc) (judged : Judged t d Fits) (rows : Below d.rows) where
  -- RULE 9. The only argument of a directive: it is an `if`, a boolean or a variable
  one_if : (bs : List ℕ) → T (only_ifs d bs) → (a : ℕ) × (bs ≡ a ∷ []) × T (is_if d a)
  one_if [] h = absurd h
  one_if (a ∷ []) h = (a, refl, h)
  one_if (a ∷ (b ∷ bs)) h = absurd h

  directive_right_is : (k : ℕ) → T (is kind_directive (row_of d k)) → T (only_ifs d (rows_below d kind_argument k))
  unfolding directive_wrong
  directive_right_is k h =
      let r = right (directive_right d k) (λ w. not_broken t d judged k _ (directive (and_i (is kind_directive (row_of d k)) (not (directive_right d k)) h w))) in
      and_r (not (repeated_there d k)) (only_ifs d (rows_below d kind_argument k))
      (and_r (is_selection (row_of d (parent_of d k))) (not (repeated_there d k) && only_ifs d (rows_below d kind_argument k))
      (and_r (any_of (same (name_of d k)) built_in_directives) (is_selection (row_of d (parent_of d k)) && (not (repeated_there d k) && only_ifs d (rows_below d kind_argument k))) r))

  abbrev is_argument : ℕ → Row → Bool
  is_argument k r = is kind_argument r && below k r

  abbrev is_choice : ℕ → Row → Bool
  is_choice a r = (is kind_boolean r || is kind_variable r) && below a r

  -- the argument below a directive, and the row right behind it
  record Choice (k : ℕ) : Type 0 where
    argument : T (is_argument k (row_of d (argument_below d k)))
    choice : T (is_choice (argument_below d k) (row_of d (suc (argument_below d k))))

  value_of : (n : ℕ) → T (eqb n kind_boolean || eqb n kind_variable) → T (leb kind_variable n && leb n kind_object)
  value_of n h = go (or_cases (eqb n kind_boolean) (eqb n kind_variable) h)
    where
      go : T (eqb n kind_boolean) ⊎ T (eqb n kind_variable) → T (leb kind_variable n && leb n kind_object)
      go (inl x) = subst (λ (m : ℕ). T (leb kind_variable m && leb m kind_object)) (sym (eqb→eq n kind_boolean x)) tt
      go (inr x) = subst (λ (m : ℕ). T (leb kind_variable m && leb m kind_object)) (sym (eqb→eq n kind_variable x)) tt

  -- a value right below an argument is the row right behind it
  value_place : (a j : ℕ) → T (is kind_argument (row_of d a)) → T (is_value (row_of d j)) → T (below a (row_of d j)) → j ≡ suc a
  value_place a j k v p = rows.arguments a j (eqb→eq (row_of d a).kind kind_argument k) v (eqb→eq (parent_of d j) a p)

  choice_of : (k : ℕ) → T (is kind_directive (row_of d k)) → Choice k
  unfolding rows_below
  choice_of k h =
      let o = one_if (rows_below d kind_argument k) (directive_right_is k h) in
      let a = o.0 in
      let f = first_number (is_argument k) d.rows 0 a [] o.1 in
      let q : a ≡ argument_below d k = f.0 ∙ zero-add (argument_below d k) in
      let s = any_some (is_choice a) d.rows (and_r (same (name_of d a) (bytes "if")) (any_of (is_choice a) d.rows) o.2) in
      let j = s.0 in
      let c : T (is_choice (argument_below d k) (row_of d j)) = subst (λ (x : ℕ). T (is_choice x (row_of d j))) q s.1 in
      let b : T (is kind_boolean (row_of d j) || is kind_variable (row_of d j)) = and_l (is kind_boolean (row_of d j) || is kind_variable (row_of d j)) (below (argument_below d k) (row_of d j)) c in
      let p : T (below (argument_below d k) (row_of d j)) = and_r (is kind_boolean (row_of d j) || is kind_variable (row_of d j)) (below (argument_below d k) (row_of d j)) c in
      let z = value_place (argument_below d k) j (and_l (is kind_argument (row_of d (argument_below d k))) (below k (row_of d (argument_below d k))) f.1) (value_of (row_of d j).kind b) p in
      record { argument = f.1; choice = subst (λ (x : ℕ). T (is_choice (argument_below d k) (row_of d x))) z c }

  -- the variable of a @skip or @include, row by row
  pub record Given (op i v : ℕ) : Type 0 where
    pub value : ℕ
    argument : ℕ
    directive : ℕ
    is_variable : T (is kind_variable (row_of d value))
    is_argument_is : T (is kind_argument (row_of d argument))
    is_directive : T (is kind_directive (row_of d directive))
    below_argument : parent_of d value ≡ argument
    below_directive : parent_of d argument ≡ directive
    below_it : parent_of d directive ≡ i
    pub number : variable_number d op (name_of d value) ≡ v

  chosen : (r : Row) → T (is kind_boolean r || is kind_variable r) → is kind_boolean r ≡ false → T (is kind_variable r)
  chosen r h e = subst (λ (b : Bool). T (b || is kind_variable r)) e h

  pub given_variable : (op i v : ℕ) (x : Name) → if_of d op x i ≡ variable v → Given op i v
  unfolding if_of
  given_variable op i v x e = found (ltb k (count d)) refl e
    where
      k : ℕ
      k = directive_on d x i

      a : ℕ
      a = argument_below d k

      is_its : Row → Bool
      is_its r = is_value r && below a r

      valued : T (is kind_directive (row_of d k)) → parent_of d k ≡ i → (w : Row) → find is_its d.rows ≡ some w → (b : Bool) → is kind_boolean w ≡ b → cond b (literal (eqb w.extra extra_true)) (variable (variable_number d op (spelt d w))) ≡ variable v → Given op i v
      valued h p w f true q e = absurd (literal≢variable e)
      valued h p w f false q e =
          let s = find_some is_its d.rows w no_row f in
          let j = s.0 in
          let y : row_of d j ≡ w = s.2 in
          let u : T (is_its (row_of d j)) = subst (λ (r : Row). T (is_its r)) (sym y) (holds (is_its w) s.3) in
          let c = choice_of k h in
          let n : T (is kind_argument (row_of d a)) = and_l (is kind_argument (row_of d a)) (below k (row_of d a)) c.argument in
          let z = value_place a j n (and_l (is_value (row_of d j)) (below a (row_of d j)) u) (and_r (is_value (row_of d j)) (below a (row_of d j)) u) in
          let m : T (is_choice a (row_of d j)) = subst (λ (o : ℕ). T (is_choice a (row_of d o))) (sym z) c.choice in
          record {
            value = j;
            argument = a;
            directive = k;
            is_variable = chosen (row_of d j) (and_l (is kind_boolean (row_of d j) || is kind_variable (row_of d j)) (below a (row_of d j)) m) (ap (is kind_boolean) y ∙ q);
            is_argument_is = n;
            is_directive = h;
            below_argument = eqb→eq (parent_of d j) a (and_r (is_value (row_of d j)) (below a (row_of d j)) u);
            below_directive = eqb→eq (parent_of d a) k (and_r (is kind_argument (row_of d a)) (below k (row_of d a)) c.argument);
            below_it = p;
            number = ap (λ (r : Row). variable_number d op (spelt d r)) y ∙ variable_one e;
          }

      looked : T (is kind_directive (row_of d k)) → parent_of d k ≡ i → (o : Option Row) → find is_its d.rows ≡ o → cond_from d op o ≡ variable v → Given op i v
      looked h p none f e = absurd (absent≢variable e)
      looked h p (some w) f e = valued h p w f (is kind_boolean w) refl e

      found : (b : Bool) → ltb k (count d) ≡ b → cond b (cond_from d op (find is_its d.rows)) absent ≡ variable v → Given op i v
      found false l e = absurd (absent≢variable e)
      found true l e =
          let u = first_passes (λ r. is kind_directive r && (below i r && called d x r)) d.rows (ltb-true k (count d) l) in
          let q = and_r (is kind_directive (row_of d k)) (below i (row_of d k) && called d x (row_of d k)) u in
          looked (and_l (is kind_directive (row_of d k)) (below i (row_of d k) && called d x (row_of d k)) u) (eqb→eq (parent_of d k) i (and_l (below i (row_of d k)) (called d x (row_of d k)) q)) (find is_its d.rows) refl e

  -- RULE 10. What stands right below a row that is reached is reached
  reach_below : (op j p k : ℕ) → T (is k (row_of d j)) → T (not (eqb k kind_operation || eqb k kind_fragment)) → parent_of d j ≡ p → Reaches d op p → Reaches d op j
  reach_below op j p k h n e r = go r
    where
      other : T (not (is_definition (row_of d j)))
      other = subst (λ (m : ℕ). T (not (eqb m kind_operation || eqb m kind_fragment))) (sym (eqb→eq (row_of d j).kind k h)) n

      go : Reaches d op p → Reaches d op j
      go (here w) = here (deeper other (subst (Within d op) (sym e) w))
      go (through {f = f} r s w) = through r s (deeper other (subst (Within d f) (sym e) w))

  pub given_defined : (op i v : ℕ) → T (is kind_operation (row_of d op)) → Reaches d op i → (g : Given op i v) → T (defines d op (name_of d g.value))
  given_defined op i v o r g =
      right (defines d op (name_of d g.value))
      (λ u. not_broken t d judged g.value _ (undefined (record { variable = g.is_variable; operation = op; is_operation = o; reaches = reached; undefined = u })))
    where
      reached : Reaches d op g.value
      reached =
          reach_below op g.value g.argument kind_variable g.is_variable tt g.below_argument
          (reach_below op g.argument g.directive kind_argument g.is_argument_is tt g.below_directive
          (reach_below op g.directive i kind_directive g.is_directive tt g.below_it r))
