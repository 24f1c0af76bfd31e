-- The tables of the language's grammar pass the tests, so the theory holds of it.
use mathlib.Core.Bool.{Bool}
use mathlib.Core.List.{List, [], ◌∷◌}
use mathlib.Core.Logic.{inl}
use lib.Dec.{T, eqb_refl}
use Rattle.paper.specs.Grammar.{nt, Ev, Derives}
use Rattle.paper.proofs.Machine.{run, choose, enter, step}
use Rattle.paper.specs.Language.{Class, Terminal, hits, the, any_name, name_but_on, name_but_literal, num_c, one_of, n_other, Mark, Part, language}
use Rattle.paper.proofs.Tables.{graphql, factored, followers, all_n, all_c, num_n, at_n, at_c, sample}
use Rattle.paper_theory.proofs.Theory.{Fit}
use Rattle.paper_theory.proofs.Test.{Tested, fit, words_of}

abbrev pub follow : Part → Class → Bool
follow n t = one_of (followers n) t

pub tested : Tested graphql follow all_n all_c sample
unfolding factored language choose enter step run
tested = record { first_closed = tt; null_closed = tt; one_first = tt; one_null = tt; apart = tt; follows = tt; deep_end = tt; deep = tt; words = tt }

pub fits : Fit graphql follow
fits = fit graphql follow all_n all_c num_n at_n num_c (λ c. inl (at_c c)) tested

pub words : (n : Part) → (es : List (Ev Class Mark)) × Derives factored hits (nt n ∷ []) es
words n = words_of graphql follow all_n all_c num_n at_n num_c (λ c. inl (at_c c)) fits tested n

pub a_token : (p : Terminal) → (d : Class) × T (hits p d)
a_token (the c) = (c, eqb_refl (num_c c))
a_token any_name = (n_other, tt)
a_token name_but_on = (n_other, tt)
a_token name_but_literal = (n_other, tt)
