-- The symbols that the readers of arguments, directives and type conditions read, and what they ask of their tokens.
use Rattle.std.specs.Prelude.{◌≡◌, List, [], ◌∷◌, ℕ, ◌-◌, take, drop}
use Rattle.paper.specs.Grammar.{nt}
use Rattle.paper.specs.Language.{Arguments?, Directive, Directives?, TypeCondition, n_other}
use Rattle.paper.proofs.Going.{Stack}
use Rattle.text_scan.specs.Head.{word_of, kind_of}
use Rattle.text_cursor.specs.declared.Cursor.{Cursor}

-- the bytes of the token that a cursor looks at
abbrev pub bytes_at : List ℕ → Cursor → List ℕ
bytes_at s c = take (c.end - c.start) (drop c.start s)

-- the token looked at is the name `on`
abbrev pub AtOn : List ℕ → Cursor → Type 0
AtOn s c = (c.kind ≡ kind_of n_other) × (word_of (bytes_at s c) ≡ 5)

abbrev pub arguments_stack : Stack
arguments_stack = nt Arguments? ∷ []

abbrev pub directive_stack : Stack
directive_stack = nt Directive ∷ []

abbrev pub directives_stack : Stack
directives_stack = nt Directives? ∷ []

abbrev pub condition_stack : Stack
condition_stack = nt TypeCondition ∷ []
