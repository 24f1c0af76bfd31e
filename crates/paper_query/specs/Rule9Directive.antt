-- 9 directive other than skip or include, placed elsewhere than on a selection, repeated there, or not with one argument only,
-- an `if` that is a boolean or a variable. (Always the directive's row.)
use Rattle.std.specs.Prelude.{Bool, false, not, ◌&&◌, ◌||◌, ℕ, List, [], ◌∷◌}
use Rattle.paper.specs.Numbers.{kind_argument, kind_directive, kind_variable, kind_boolean}
use Rattle.paper.specs.Tokens.{same}
use Rattle.paper_table.specs.Lists.{bytes, any_of, each, only_if, earlier}
use Rattle.paper_table.specs.Types.{built_in_directives}
use Rattle.paper_query.specs.Constructs.{Doc, is, is_selection, called, below, row_of, parent_of, name_of}

-- an earlier one beside it has its name
abbrev pub repeated_there : Doc → ℕ → Bool
repeated_there d i = earlier (λ r. is kind_directive r && (below (parent_of d i) r && called d (name_of d i) r)) i d.rows

-- the rows of a kind right below row i
unfoldable pub rows_below : Doc → ℕ → ℕ → List ℕ
rows_below d k i = each (λ j r. only_if (is k r && below i r) j) d.rows

-- the argument of row a is an `if`, a boolean or a variable
abbrev pub is_if : Doc → ℕ → Bool
is_if d a = same (name_of d a) (bytes "if") && any_of (λ r. (is kind_boolean r || is kind_variable r) && below a r) d.rows

-- one only, and such
abbrev pub only_ifs : Doc → List ℕ → Bool
only_ifs d [] = false
only_ifs d (a ∷ []) = is_if d a
only_ifs d (a ∷ b ∷ more) = false

-- nothing of this is wrong
abbrev pub directive_right : Doc → ℕ → Bool
directive_right d i =
    any_of (same (name_of d i)) built_in_directives && (is_selection (row_of d (parent_of d i)) &&
    (not (repeated_there d i) && only_ifs d (rows_below d kind_argument i)))

unfoldable pub directive_wrong : Doc → ℕ → Bool
directive_wrong d i = is kind_directive (row_of d i) && not (directive_right d i)
