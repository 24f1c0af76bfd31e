-- `text_documents::begin` meets its contract: the first token from 0 on, its offsets narrowed.
use mathlib.Core.Path.{◌≡◌, sym, ap, ◌∙◌}
use native.Mathlib.Omega.{arith}
use Rattle.paper.proofs.Lexing.{from}
use Rattle.text_scan.specs.Head.{head_of}
use Rattle.text_tokens.proofs.PackedLaws.{scanned}
use Rattle.text_cursor.specs.Reader.{moved_to}
use Rattle.text_cursor.proofs.ReaderLaws.{head_within, token_lies, moved_bad}
use Rattle.text_documents.proofs.begin.Goals as goal

pub located-requires : goal.located-requires
located-requires c =
    let first-token : c.unpacked-t.result ≡ head_of (from c.args.s.now 0) = scanned _ 0 _ _ c.requires (omega arith) c.scan-n.ensures c.unpacked-t.ensures in
    rw first-token (head_within _ 0 c.requires (omega arith))

pub returns-in_default : goal.returns-in_default
returns-in_default c =
    let first-token : c.unpacked-t.result ≡ head_of (from c.args.s.now 0) = scanned _ 0 _ _ c.requires (omega arith) c.scan-n.ensures c.unpacked-t.ensures in
    moved_bad _ _ _ _ _ _ c.located.ensures c.in_default.is first-token

pub overflow_cast-result : goal.overflow_cast-result
overflow_cast-result c =
    let first-token : c.unpacked-t.result ≡ head_of (from c.args.s.now 0) = scanned _ 0 _ _ c.requires (omega arith) c.scan-n.ensures c.unpacked-t.ensures in
    let l = token_lies _ 0 _ _ _ (omega arith) (sym first-token ∙ c.in-Ok.is) in omega arith

pub overflow_cast-result-2 : goal.overflow_cast-result-2
overflow_cast-result-2 c =
    let first-token : c.unpacked-t.result ≡ head_of (from c.args.s.now 0) = scanned _ 0 _ _ c.requires (omega arith) c.scan-n.ensures c.unpacked-t.ensures in
    let l = token_lies _ 0 _ _ _ (omega arith) (sym first-token ∙ c.in-Ok.is) in omega arith

pub returns : goal.returns
returns c =
    let first-token : c.unpacked-t.result ≡ head_of (from c.args.s.now 0) = scanned _ 0 _ _ c.requires (omega arith) c.scan-n.ensures c.unpacked-t.ensures in
    ap (moved_to _ _) (sym c.in-Ok.is ∙ first-token)
