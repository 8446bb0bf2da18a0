-- An entry that is read alone, seen in the memory. Assumes nothing.
use Rattle.locate.proofs.locate_entry.Goals as goal

pub returns-in-Whole : goal.returns-in-Whole
returns-in-Whole c =
    let m = c.args.memory.now in
    c.locate_plain.ensures m.lists.layout.sizes m.pages.now m.lists.bytes.now c.requires

pub returns-in-Packs : goal.returns-in-Packs
returns-in-Packs c =
    let m = c.args.memory.now in
    c.locate_tagged.ensures m.lists.layout.sizes m.pages.now m.lists.bytes.now c.requires
