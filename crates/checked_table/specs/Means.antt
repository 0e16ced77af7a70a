-- What an image of good records means.
use Rattle.checked_table.specs.declared.records.Records.{Records}
use Rattle.checked_table.specs.Atn.{Atn}
use Rattle.checked_table.specs.Decoding.{atn_of}

abbrev pub atn_in : Records → Atn
atn_in r = atn_of r.image.numbers.now r.image.sections
