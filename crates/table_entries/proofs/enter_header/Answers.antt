-- What is put says of the name and the type what they are.
use Rattle.table_entries.proofs.Stores.{entering_is}
use Rattle.table_entries.proofs.enter_header.Goals as goal

pub returns : goal.returns
returns c = λ name type m r.
    let a = c.args in
    entering_is a.t.now a.book.now a.es.now _ a.e _ _ _ _ _ _ a.next _ name type m r c.key_of-key.ensures c.number_of-meant.ensures.0 c.put.ensures
