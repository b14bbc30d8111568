mod ReadBack
