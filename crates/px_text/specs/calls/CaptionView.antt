-- How a caption is seen.
use Rattle.px_text.specs.declared.caption.Caption.{Caption}
use Rattle.px_text.specs.Captions.{Labelled}

-- a caption as its label and the bytes that it refers to
abbrev pub caption_view : Caption → Labelled
caption_view c = (c.label, c.text.now)
