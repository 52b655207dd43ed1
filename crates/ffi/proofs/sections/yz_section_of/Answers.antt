-- `sections::yz_section_of` meets its contract: by the contracts of the calls in it. Assumes nothing.
use Rattle.ffi_words.specs.Common.{encoding_of}
use mathlib.Core.Path.{sym}
use Rattle.lists.proofs.ConvertLaws.{older_section, newer_section}
use Rattle.ffi.proofs.sections.yz_section_of.Goals as goal

pub returns-then-encoding-le4 : goal.returns-then-encoding-le4
returns-then-encoding-le4 c = sym (older_section (encoding_of c.args.encoding) 0 1 c.if-encoding-le4.true)

pub returns : goal.returns
returns c = sym (newer_section (encoding_of c.args.encoding) 0 1 c.if-encoding-le4.false)
