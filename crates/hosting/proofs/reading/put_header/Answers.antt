-- `put_header` writes the numbers, then the floats, then the version. Assumes nothing.
use Rattle.hosting.proofs.ReadRows.{header_put}
use Rattle.hosting.proofs.reading.put_header.Goals as goal

pub returns : goal.returns
returns c =
    header_put c.args.file.now c.args.header.now _ _ _ c.requires.0 c.requires.1 c.put_numbers.ensures
    c.put_text.ensures.content c.put_text-2.ensures.content
