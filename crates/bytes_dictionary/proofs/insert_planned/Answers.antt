-- At no spot nothing is written.
use Rattle.layout.specs.Numbers.{dictionary_number}
use Rattle.bytes_key.specs.KeyBytes.{bytes_in}
use Rattle.bytes_dictionary.proofs.Written.{after_none}
use Rattle.bytes_dictionary.proofs.insert_planned.Goals as goal

pub returns-in_default-clause-pages : goal.returns-in_default-clause-pages
returns-in_default-clause-pages c =
    let a = c.args in
    (after_none a.layout.now.sizes a.pages.now a.lists.now (dictionary_number a.key.now.d) a.x.n a.x.place a.spot a.x.stamp (bytes_in a.key.now) c.in_default.is).0

pub returns-in_default-clause-lists : goal.returns-in_default-clause-lists
returns-in_default-clause-lists c =
    let a = c.args in
    (after_none a.layout.now.sizes a.pages.now a.lists.now (dictionary_number a.key.now.d) a.x.n a.x.place a.spot a.x.stamp (bytes_in a.key.now) c.in_default.is).1
