-- By the row's kind.
use mathlib.Core.Path.{sym, ◌∙◌}
use native.Mathlib.Omega.{arith}
use Rattle.query_rows.specs.Rowed.{doc_of}
use Rattle.value_tokens.proofs.TokenLaws.{row_span, row_quotes, token_is, token_int, token_decimal, token_text, token_other}
use Rattle.value_tokens.proofs.put_token.Goals as goal

pub slice_bounds-put_integer-count : goal.slice_bounds-put_integer-count
slice_bounds-put_integer-count c = let w = row_span c.args.s.now c.args.rows.now c.args.n c.requires.0 c.args.i in omega (arith, w.0, w.1, c.start_of-start.ensures, c.end_of-stop.ensures)

pub slice_bounds-put_integer-start : goal.slice_bounds-put_integer-start
slice_bounds-put_integer-start c = let w = row_span c.args.s.now c.args.rows.now c.args.n c.requires.0 c.args.i in omega (arith, w.0, w.1, c.start_of-start.ensures, c.end_of-stop.ensures)

pub slice_bounds-put_integer-end : goal.slice_bounds-put_integer-end
slice_bounds-put_integer-end c = let w = row_span c.args.s.now c.args.rows.now c.args.n c.requires.0 c.args.i in omega (arith, w.0, w.1, c.start_of-start.ensures, c.end_of-stop.ensures)

pub returns-then-kind-eq-KIND_INTEGER : goal.returns-then-kind-eq-KIND_INTEGER
returns-then-kind-eq-KIND_INTEGER c = let a = c.args in let d = doc_of a.s.now a.rows.now a.n in
    token_int d a.i a.sort a.limit a.from a.out.now _ _ _ (token_is a.s.now a.rows.now a.n a.i _ _ c.start_of-start.ensures c.end_of-stop.ensures) (sym c.kind_of-kind.ensures ∙ c.if-kind-eq-KIND_INTEGER.true) c.put_integer.ensures

pub slice_bounds-put_decimal-count : goal.slice_bounds-put_decimal-count
slice_bounds-put_decimal-count c = let w = row_span c.args.s.now c.args.rows.now c.args.n c.requires.0 c.args.i in omega (arith, w.0, w.1, c.start_of-start.ensures, c.end_of-stop.ensures)

pub slice_bounds-put_decimal-start : goal.slice_bounds-put_decimal-start
slice_bounds-put_decimal-start c = let w = row_span c.args.s.now c.args.rows.now c.args.n c.requires.0 c.args.i in omega (arith, w.0, w.1, c.start_of-start.ensures, c.end_of-stop.ensures)

pub slice_bounds-put_decimal-end : goal.slice_bounds-put_decimal-end
slice_bounds-put_decimal-end c = let w = row_span c.args.s.now c.args.rows.now c.args.n c.requires.0 c.args.i in omega (arith, w.0, w.1, c.start_of-start.ensures, c.end_of-stop.ensures)

pub returns-then-kind-eq-KIND_FLOAT : goal.returns-then-kind-eq-KIND_FLOAT
returns-then-kind-eq-KIND_FLOAT c = let a = c.args in let d = doc_of a.s.now a.rows.now a.n in
    token_decimal d a.i a.sort a.limit a.from a.out.now _ _ _ (token_is a.s.now a.rows.now a.n a.i _ _ c.start_of-start.ensures c.end_of-stop.ensures) (sym c.kind_of-kind.ensures ∙ c.if-kind-eq-KIND_FLOAT.true) c.put_decimal.ensures

pub put_text-requires : goal.put_text-requires
put_text-requires c = let w = row_span c.args.s.now c.args.rows.now c.args.n c.requires.0 c.args.i in let q = row_quotes c.args.s.now c.args.rows.now c.args.n c.requires.0 c.args.i (sym c.kind_of-kind.ensures ∙ c.if-kind-eq-KIND_STRING.true) in (c.requires.1, omega (arith, c.requires.0.short), omega (arith, q, c.start_of-start.ensures, c.end_of-stop.ensures), omega (arith, w.1, c.start_of-start.ensures, c.end_of-stop.ensures))

pub returns-then-kind-eq-KIND_STRING : goal.returns-then-kind-eq-KIND_STRING
returns-then-kind-eq-KIND_STRING c = let a = c.args in let d = doc_of a.s.now a.rows.now a.n in
    token_text d a.i a.sort a.limit a.from a.out.now _ _ _ (token_is a.s.now a.rows.now a.n a.i _ _ c.start_of-start.ensures c.end_of-stop.ensures) (sym c.kind_of-kind.ensures ∙ c.if-kind-eq-KIND_STRING.true) c.put_text.ensures

pub returns : goal.returns
returns c = let a = c.args in let d = doc_of a.s.now a.rows.now a.n in
    token_other d a.i a.sort a.limit a.from a.out.now _ (λ e. c.if-kind-eq-KIND_INTEGER.false (c.kind_of-kind.ensures ∙ e)) (λ e. c.if-kind-eq-KIND_FLOAT.false (c.kind_of-kind.ensures ∙ e)) (λ e. c.if-kind-eq-KIND_STRING.false (c.kind_of-kind.ensures ∙ e))
