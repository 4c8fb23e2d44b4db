use Rattle.wl_places.specs.AddressSteps.{AreObjectStarts}
use Rattle.wl_lists.proofs.Rows.{row_within, row_found}
use Rattle.wl_places.proofs.AddressLaws.{start_at}
use Rattle.wl_places.proofs.addresses.AddressBook.start.Goals as goal

pub starts_row-starts-requires : goal.starts_row-starts-requires
starts_row-starts-requires c =
    let book = c.args.self.now in
    row_within (AreObjectStarts book.placing.now) book.input.now.link.objects book.starts.now
    c.args.object c.requires.here.o c.requires.book.starts c.requires.here.here

pub bounds-starts-number : goal.bounds-starts-number
bounds-starts-number c =
    let book = c.args.self.now in
    (start_at book.placing.now c.args.object c.args.number c.requires.here.o
    c.starts_row-starts.result.now
    (row_found (AreObjectStarts book.placing.now) book.input.now.link.objects book.starts.now
    c.args.object c.requires.here.o c.starts_row-starts.result.now c.requires.book.starts
    c.requires.here.here c.starts_row-starts.ensures)
    c.requires.here.within).0

pub returns : goal.returns
returns c =
    let book = c.args.self.now in
    (start_at book.placing.now c.args.object c.args.number c.requires.here.o
    c.starts_row-starts.result.now
    (row_found (AreObjectStarts book.placing.now) book.input.now.link.objects book.starts.now
    c.args.object c.requires.here.o c.starts_row-starts.result.now c.requires.book.starts
    c.requires.here.here c.starts_row-starts.ensures)
    c.requires.here.within).1
